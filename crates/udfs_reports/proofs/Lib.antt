pub mod PagingLemmas
pub mod RereadingLemmas
pub mod TellingLemmas
mod InRange
mod ToldTexts
mod LostTexts
mod StoreListings
mod ToldVolumes
mod PathLemmas
