pub mod Products
