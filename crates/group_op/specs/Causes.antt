-- What the errors of a grouping tell.
pub use Rattle.partition_stack.specs.Causes.{CameBeside}
pub use Rattle.partition_stack.specs.Leaving.{CameOfStore}
pub use Rattle.partition_stack.specs.Slots.{IsWant, IsWantBelow, IsWantBelowOf, IsWantOf}
