pub mod DistrictTable
