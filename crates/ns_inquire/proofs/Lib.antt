mod BatchLaws
mod Examples
mod InterfaceLaws
mod Picks
