pub mod ItemLogs
