pub mod ToggledLaws
pub mod ControlLaws
pub mod StepsRequests
pub mod StepsCalls
pub mod AddressCallsLaws
pub mod AddressLaws
