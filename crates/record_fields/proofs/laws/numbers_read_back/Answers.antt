use Rattle.std.specs.Int.{w16, w32, w64}
use Rattle.std.proofs.Common.{◌^◌}
use Rattle.record_fields.proofs.NumberLaws.{u8_field, number_field, signed_field, flag_field, wide16, wide32, wide64}
use Rattle.record_fields.proofs.laws.numbers_read_back.Goals as goal

pub returns : goal.returns
returns c = record {
  u8 = u8_field;
  u16 = number_field w16 (2 ^ 16) wide16;
  u32 = number_field w32 (2 ^ 32) wide32;
  u64 = number_field w64 (2 ^ 64) wide64;
  i32 = signed_field w32 (2 ^ 32) wide32;
  i64 = signed_field w64 (2 ^ 64) wide64;
  flag = flag_field;
}
