pub mod Meaning
pub mod Laws
pub mod Layers
pub mod Refusals
pub mod Rules
pub mod LayersLemmas
pub mod Triples
