pub mod Release
