pub use Rattle.story_steps.specs.call_stories
pub use Rattle.story_steps
pub use Rattle.story_steps.specs.Below
