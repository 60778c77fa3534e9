mod ReadLemmas
mod FolderLemmas
mod LifeLemmas
mod ProcessLemmas
mod CauseLemmas
mod LeftHouses
mod RestartLemmas
