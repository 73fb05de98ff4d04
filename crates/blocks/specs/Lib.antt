-- Commands on the whole block: the block and marks of a plan's lengths, and the laws of each command.
pub mod Wholes
pub mod BlockLaws
pub mod RecoverLaws
