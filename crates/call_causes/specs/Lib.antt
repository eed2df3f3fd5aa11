pub use Rattle.story_ticks.specs.call_stories
pub use Rattle.story_ticks.specs.story_steps
pub use Rattle.story_ticks
pub use Rattle.story_ticks.specs.Below
