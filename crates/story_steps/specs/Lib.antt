pub use Rattle.call_stories
pub use Rattle.call_stories.specs.Below
