pub mod JumpLaws
pub mod StandIns
