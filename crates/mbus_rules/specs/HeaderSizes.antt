-- 01, "Header, 12 bytes": version, access and status are any byte.
use Rattle.std.specs.Prelude.{◌<◌}
use Rattle.mbus_rules.specs.declared.Header.{Header}

-- The bytes of a header are bytes where its fields are; the rules see to those of the maker and the meter type.
pub record Fits (h : Header) : Type 0 where
  pub version : h.version < 256
  pub access : h.access < 256
  pub status : h.status < 256
