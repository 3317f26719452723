pub mod RisingLists
pub mod WitnessLaws
pub mod WitnessLemmas
pub mod Rising
pub mod Groups
