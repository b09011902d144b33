pub mod Found
pub mod Laws
pub mod Marks
pub mod Rising
pub mod Among
pub mod Wide
