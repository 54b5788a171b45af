pub mod Trees
pub mod Bits
pub mod Shares
pub mod Even
pub mod Laws
