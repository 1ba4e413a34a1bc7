-- Every definition opened: who computes with fields names this.
use Rattle.field.specs.Field.{u8, u16, u32, u64}
use Rattle.field.specs.Bytes.{u32_bytes, u64_bytes, cells_bytes}

unfoldable pub fields : Type 0
unfolding u8 u16 u32 u64 u32_bytes u64_bytes cells_bytes
fields = Unit
