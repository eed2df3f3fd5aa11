pub mod LinkReadingLists
pub mod Target
pub mod Scenes
pub mod Says
pub mod CallStories
pub mod PostsOfRun
pub mod Decided
pub mod Below
