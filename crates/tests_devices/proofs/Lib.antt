mod SupplyCalls
