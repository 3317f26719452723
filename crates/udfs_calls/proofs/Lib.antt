pub mod PublicLaws
pub mod SomeCrash
