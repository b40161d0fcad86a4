pub mod FreeTrees
pub mod Parts
