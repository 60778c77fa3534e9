mod FolderLemmas
mod RunLemmas
