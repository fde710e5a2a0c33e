pub mod ByteRunLemmas
