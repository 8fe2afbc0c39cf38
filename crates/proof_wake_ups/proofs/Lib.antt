pub mod TwinsLaws
pub mod MachinesLaws
pub mod CodeLaws
pub mod RoomsLaws
