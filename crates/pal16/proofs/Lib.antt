pub mod PalLemmas
