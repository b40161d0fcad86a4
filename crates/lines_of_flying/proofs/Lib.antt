pub mod Listed
pub mod Followers
pub mod FreeNeed
pub mod AllSuccessors
pub mod TourLines
pub mod WholeTours
pub mod FoundNext
pub mod Pushed
