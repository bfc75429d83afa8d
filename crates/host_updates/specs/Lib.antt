-- What the contracts cite: a host update over lent bytes.
pub mod Update
