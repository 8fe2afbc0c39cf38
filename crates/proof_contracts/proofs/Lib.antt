pub mod SharedRunsLaws
pub mod SharedAloneLaws
pub mod SharedDemand3
pub mod SharedTurns
pub mod SharedStepsLaws
pub mod Witness
