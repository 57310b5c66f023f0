-- Which text is which identifier: 36 bytes that the reader of `uuid` accepts.
-- EDN, edn-format: "#uuid"; RFC 9562, section 4.
use Rattle.std.specs.Prelude.{◌≡◌, ℕ, Some, List, length}
use Rattle.std.specs.Int.{w128, from_be_bytes}
use Rattle.uuid.specs.Text.{parsed}

pub record IsUuid (n : ℕ) (text : List ℕ) : Type 0 where
  pub bytes : List ℕ
  pub size : length text ≡ 36
  pub reads : parsed text ≡ Some bytes
  pub is : n ≡ from_be_bytes w128 bytes
