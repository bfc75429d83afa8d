-- The sentences of 'Probe', each with dwords, computed, of which the probe would say otherwise if the sentence were turned round.
use mathlib.Core.Path.{◌≡◌, refl}
use lib.Count.{count_trailing_zeros}
use Rattle.probe.specs.Probe.{io, memory32, memory64, range, refused, probe_of}

pub record Probed : Type 0 where
  -- low bit 0 set: I/O, bits 31:2 of low count
  pub io_64 : probe_of 0x0000FFC1 0 ≡ range io 6
  pub io_4 : probe_of 0xFFFFFFFF 0xFFFFFFFF ≡ range io 2
  pub io_other_bits : probe_of 0x80000003 0xFFFFFFFF ≡ range io 31
  -- bits 2:0 = 000: 32-bit memory, bits 31:4 of low
  pub memory_16 : probe_of 0xFFFFFFF8 0 ≡ range memory32 4
  pub memory_4k : probe_of 0xFFFFF008 0xFFFFFFFF ≡ range memory32 12
  -- 100: 64-bit memory, bits 63:4
  pub memory_256m : probe_of 0xF000000C 0xFFFFFFFF ≡ range memory64 28
  pub memory_4g : probe_of 0x0000000C 0xFFFFFFFF ≡ range memory64 32
  pub memory_top : probe_of 0x00000004 0x80000000 ≡ range memory64 63
  -- refusal 8: bits 2:0 are 010 or 110, or no counted bit is 1
  pub kind_010 : probe_of 0xFFFFFFF2 0xFFFFFFFF ≡ refused
  pub kind_110 : probe_of 0xFFFFFFF6 0xFFFFFFFF ≡ refused
  pub no_bit_of_io : probe_of 0x00000003 0xFFFFFFFF ≡ refused
  pub no_bit_of_32 : probe_of 0x00000008 0xFFFFFFFF ≡ refused
  pub no_bit_of_64 : probe_of 0x0000000C 0 ≡ refused

pub probed : Probed
unfolding probe_of count_trailing_zeros
probed = record {
  io_64 = refl;
  io_4 = refl;
  io_other_bits = refl;
  memory_16 = refl;
  memory_4k = refl;
  memory_256m = refl;
  memory_4g = refl;
  memory_top = refl;
  kind_010 = refl;
  kind_110 = refl;
  no_bit_of_io = refl;
  no_bit_of_32 = refl;
  no_bit_of_64 = refl;
}
