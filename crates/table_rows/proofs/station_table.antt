pub mod StationsFit
