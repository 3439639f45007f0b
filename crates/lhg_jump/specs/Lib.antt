pub mod HitViews
pub mod OutViews
pub mod PlantLists
