-- The papers' sentences, each with a run from the fresh state that answers otherwise if the sentence is turned round: paper 01, 'How a bit behaves', 'The port pair', 'Claims' and 'Refusal numbers', then W-202, W-206 and W-207, in their order.
-- The numbers are the papers', written out; proofs/Sentences.antt computes every row.
use Rattle.std.specs.Prelude.{◌≡◌, List, [], ◌∷◌, ℕ}
use Rattle.answer.specs.Refusals.{Reply, fine, ok, no}
use Rattle.rules.specs.declared.State.{State}
use Rattle.rules.specs.Claims.{Claimed, unclaimed, claimed, translation, aperture, io, memory_claim_of, io_claim_of}
use Rattle.rules.specs.declared.WindowEvent.TheVariants.{WindowRead, WindowWrite, Complete, Fault, AddCycles, MirrorUpdate}
use Rattle.rules.specs.declared.Event.{Event}
use Rattle.rules.specs.declared.Event.TheVariants.{Read, Write, PortRead, PortWrite, HostUpdate, EndSignal, PlatformReset, InWindow}
use Rattle.rules.specs.Events.{happens}

-- ---- how a row is written: the lines of a console, each with its answer

pub data Step : Type 0 where
  -- what happens, and what is said to it
  says : Event → Reply → Step
  -- a memory address, or a port, and what claims it
  memory : ℕ → Claimed → Step
  port : ℕ → Claimed → Step

infix 70 ◌gives◌ ◌refused◌
abbrev pub ◌gives◌ : Event → ℕ → Step
e gives v = says e (ok v)

abbrev pub accepted : Event → Step
accepted e = says e fine

abbrev pub ◌refused◌ : Event → ℕ → Step
e refused n = says e (no n)

-- offset, lanes
abbrev pub R : ℕ → ℕ → Event
R o l = Read o l

-- port, width
abbrev pub I : ℕ → ℕ → Event
I p w = PortRead p w

-- offset in the window, lanes
abbrev pub U : ℕ → ℕ → Event
U o l = InWindow (WindowRead o l)

-- accepted: a guest write, a port write, a host update, a guest write in the window, and the host's changes there
abbrev pub W : ℕ → ℕ → ℕ → Step
W o l v = accepted (Write o l v)

abbrev pub O : ℕ → ℕ → ℕ → Step
O p w v = accepted (PortWrite p w v)

abbrev pub H : ℕ → ℕ → ℕ → Step
H o m v = accepted (HostUpdate o m v)

abbrev pub VW : ℕ → ℕ → ℕ → Step
VW o l v = accepted (InWindow (WindowWrite o l v))

abbrev pub C : ℕ → Step
C m = accepted (InWindow (Complete m))

abbrev pub F : ℕ → Step
F v = accepted (InWindow (Fault v))

abbrev pub N : ℕ → Step
N n = accepted (InWindow (AddCycles n))

abbrev pub Y : ℕ → ℕ → ℕ → Step
Y o m v = accepted (InWindow (MirrorUpdate o m v))

-- the end signal, the platform reset
abbrev pub E : Step
E = accepted EndSignal

abbrev pub P : Step
P = accepted PlatformReset

-- the write that starts a function reset
abbrev pub A8 : Step
A8 = W 0xA8 0x1 1

-- ---- the table

unfoldable pub sentences : List (List Step)
sentences =
    -- A guest write touches only enabled lanes; bit i is for byte offset + i
    (W 0xFC 0x6 0xFFFFFFFF ∷ R 0xFC 0xF gives 0x00FFFF00 ∷ []) ∷
    (W 0xE4 0x8 0xAABBCCDD ∷ R 0xE4 0xF gives 0xAA000000 ∷ []) ∷
    -- Lanes 0 is accepted and changes nothing: no field is closed
    (W 0x2C 0x0 0xFFFFFFFF ∷ R 0x2C 0xF gives 0 ∷ W 0x2C 0xF 0x12345678 ∷ R 0x2C 0xF gives 0x12345678 ∷ []) ∷
    -- A read gives each enabled byte in its place and FF in the others (W-206); lanes 0 reads FFFFFFFF
    (R 0x00 0x6 gives 0xFF5280FF ∷ R 0x00 0x9 gives 0x01FFFF86 ∷ R 0x00 0x0 gives 0xFFFFFFFF ∷ []) ∷
    -- Write-once: the first write that enables any byte of the field closes the whole field
    (W 0x2C 0x1 0x34 ∷ W 0x2C 0x2 0x1200 ∷ R 0x2C 0xF gives 0x00000034 ∷ []) ∷
    (W 0x2C 0x8 0x56000000 ∷ W 0x2C 0x4 0x00780000 ∷ R 0x2C 0xF gives 0x56000000 ∷ []) ∷
    -- even if the value equals the default
    (W 0x2C 0x2 0 ∷ W 0x2C 0x3 0x1234 ∷ R 0x2C 0xF gives 0 ∷ []) ∷
    (W 0xE8 0x2 0 ∷ W 0xE8 0xF 0x00008001 ∷ R 0xE8 0xF gives 0x00000001 ∷ []) ∷
    -- the three fields: one is not closed by a byte of another, nor SWSCI bit 15 by byte E8
    (W 0x2C 0x3 0x1234 ∷ W 0x2C 0xC 0x56780000 ∷ R 0x2C 0xF gives 0x56781234 ∷ []) ∷
    (W 0xE8 0x1 0x01 ∷ W 0xE8 0x2 0x8000 ∷ R 0xE8 0xF gives 0x00008001 ∷ []) ∷
    -- accepted: neither a refused write nor a read closes one
    (Write 0x2C 0x10 0 refused 6 ∷ R 0x2C 0xF gives 0 ∷ W 0x2C 0xF 0x12345678 ∷ R 0x2C 0xF gives 0x12345678 ∷ []) ∷
    -- MSAC: a write whose bits 2:1 are 10 keeps the old 2:1 and stores 7:4; bits 3 and 0 are read-only
    (W 0x60 0x4 0x00F40000 ∷ R 0x60 0xF gives 0x00F20000 ∷ W 0x60 0x4 0x00FF0000 ∷ R 0x60 0xF gives 0x00F60000 ∷ []) ∷
    -- 00 makes no bit of GMADR read-only, 01 bit 27, 11 bits 28:27
    (W 0x60 0x4 0 ∷ W 0x18 0xF 0xFFFFFFFF ∷ R 0x18 0xF gives 0xF800000C ∷ []) ∷
    (W 0x18 0xF 0xFFFFFFFF ∷ R 0x18 0xF gives 0xF000000C ∷ []) ∷
    (W 0x60 0x4 0x00060000 ∷ W 0x18 0xF 0xFFFFFFFF ∷ R 0x18 0xF gives 0xE000000C ∷ []) ∷
    -- Every write that enables byte 62 clears the bits that the code then makes read-only; another does not
    (W 0x60 0x4 0 ∷ W 0x18 0xF 0xFFFFFFFF ∷ W 0x60 0xB 0xFFFFFFFF ∷ R 0x18 0xF gives 0xF800000C ∷ W 0x60 0x4 0x00020000 ∷ R 0x18 0xF gives 0xF000000C ∷ W 0x60 0x4 0x00060000 ∷ R 0x18 0xF gives 0xE000000C ∷ []) ∷
    -- PMCS: 00 and 11 are stored
    (W 0xD4 0x1 3 ∷ R 0xD4 0xF gives 3 ∷ W 0xD4 0x1 0 ∷ R 0xD4 0xF gives 0 ∷ []) ∷
    -- a write of 01 or 10 keeps the old two bits
    (W 0xD4 0x1 1 ∷ R 0xD4 0xF gives 0 ∷ W 0xD4 0x1 2 ∷ R 0xD4 0xF gives 0 ∷ []) ∷
    (W 0xD4 0x1 3 ∷ W 0xD4 0x1 1 ∷ R 0xD4 0xF gives 3 ∷ W 0xD4 0x1 2 ∷ R 0xD4 0xF gives 3 ∷ []) ∷
    -- No change of power state resets or alters any other bit
    (W 0x04 0x1 7 ∷ W 0xFC 0xF 0x12345678 ∷ W 0xD4 0x1 3 ∷ R 0x04 0xF gives 0x00900007 ∷ W 0xD4 0x1 0 ∷ R 0x04 0xF gives 0x00900007 ∷ R 0xFC 0xF gives 0x12345678 ∷ []) ∷
    -- CAPPOINT reads 90 when CAPL bit 0 is 0, D0 when it is 1
    (R 0x34 0xF gives 0x90 ∷ W 0x7C 0x8 0x01000000 ∷ R 0x34 0xF gives 0xD0 ∷ W 0x7C 0x8 0 ∷ R 0x34 0xF gives 0x90 ∷ []) ∷
    -- AFCTL: writing 0 does nothing; after the reset the bit reads 0
    (W 0x04 0x1 7 ∷ W 0xA8 0x1 0 ∷ R 0x04 0xF gives 0x00900007 ∷ E ∷ R 0x04 0xF gives 0x00900007 ∷ []) ∷
    (W 0xA8 0xF 0xFFFFFFFF ∷ E ∷ R 0xA8 0xF gives 0 ∷ []) ∷
    (W 0xA8 0xE 0xFFFFFFFF ∷ R 0xA8 0xF gives 0 ∷ []) ∷
    -- F bits return to default, of each register that has F
    (W 0x04 0xF 0xFFFFFFFF ∷ A8 ∷ E ∷ R 0x04 0xF gives 0x00900000 ∷ []) ∷
    (W 0x10 0xF 0xFFFFFFFF ∷ W 0x14 0xF 0xFFFFFFFF ∷ A8 ∷ E ∷ R 0x10 0xF gives 4 ∷ R 0x14 0xF gives 0 ∷ []) ∷
    (W 0x18 0xF 0xFFFFFFFF ∷ W 0x1C 0xF 0xFFFFFFFF ∷ A8 ∷ E ∷ R 0x18 0xF gives 0xC ∷ R 0x1C 0xF gives 0 ∷ []) ∷
    (W 0x20 0xF 0xFFFFFFFF ∷ W 0x90 0xC 0xFFFF0000 ∷ R 0x90 0xF gives 0x0071D005 ∷ A8 ∷ E ∷ R 0x20 0xF gives 1 ∷ R 0x90 0xF gives 0x0000D005 ∷ []) ∷
    (W 0x94 0xF 0xFFFFFFFF ∷ W 0x98 0xF 0xFFFFFFFF ∷ R 0x94 0xF gives 0xFFFFFFFC ∷ R 0x98 0xF gives 0xFFFF ∷ A8 ∷ E ∷ R 0x94 0xF gives 0 ∷ R 0x98 0xF gives 0 ∷ []) ∷
    (W 0xD4 0x1 3 ∷ A8 ∷ E ∷ R 0xD4 0xF gives 0 ∷ []) ∷
    -- host bits stay, and write-once fields, which stay closed
    (H 0x02 0xFF 0x11 ∷ W 0x2C 0xF 0x12345678 ∷ W 0xE8 0x2 0 ∷ A8 ∷ E ∷ R 0x00 0xF gives 0x01118086 ∷ W 0x2C 0xF 0 ∷ R 0x2C 0xF gives 0x12345678 ∷ W 0xE8 0x2 0x8000 ∷ R 0xE8 0xF gives 0 ∷ []) ∷
    -- guest bits without F: MSAC (beside HSRW, which returns), CAPL, INTRLINE, SWSMI, GSE, SWSCI 14:0, ASLS
    (W 0x60 0x7 0x00F6FFFF ∷ A8 ∷ E ∷ R 0x60 0xF gives 0x00F60000 ∷ []) ∷
    (W 0x7C 0x8 0x01000000 ∷ W 0x3C 0x1 0xAB ∷ A8 ∷ E ∷ R 0x7C 0xF gives 0x01000000 ∷ R 0x3C 0xF gives 0x01AB ∷ []) ∷
    (W 0xE0 0xF 0xFFFFFFFF ∷ W 0xE4 0xF 0x12345678 ∷ A8 ∷ E ∷ R 0xE0 0xF gives 0xFFFF ∷ R 0xE4 0xF gives 0x12345678 ∷ []) ∷
    (W 0xE8 0xF 0xFFFFFFFF ∷ W 0xFC 0xF 0x9ABCDEF0 ∷ A8 ∷ E ∷ R 0xE8 0xF gives 0xFFFF ∷ R 0xFC 0xF gives 0x9ABCDEF0 ∷ []) ∷
    -- and the port latch
    (O 0xCF8 4 0x80001000 ∷ A8 ∷ E ∷ I 0xCF8 4 gives 0x80001000 ∷ []) ∷
    -- A platform reset: defaults, fields open, latch 0
    (W 0x04 0x1 7 ∷ W 0x2C 0xF 0x12345678 ∷ O 0xCF8 4 0x80001000 ∷ H 0x08 0xFF 0x55 ∷ P ∷ R 0x04 0xF gives 0x00900000 ∷ R 0x08 0xF gives 0x03000000 ∷ I 0xCF8 4 gives 0 ∷ W 0x2C 0xF 0x9ABCDEF0 ∷ R 0x2C 0xF gives 0x9ABCDEF0 ∷ []) ∷
    -- A host update: masked bits take the value's; mask 0 is accepted
    (H 0x08 0x0F 0xFF ∷ R 0x08 0xF gives 0x0300000F ∷ H 0x08 0x01 0x00 ∷ R 0x08 0xF gives 0x0300000E ∷ H 0x00 0x00 0xFF ∷ R 0x00 0xF gives 0x01528086 ∷ []) ∷
    -- The port pair: the latch with bits 30:24 and 1:0 zero, by 4 bytes at CF8h
    (O 0xCF8 4 0xFFFFFFFF ∷ I 0xCF8 4 gives 0x80FFFFFC ∷ []) ∷
    (PortWrite 0xCF8 2 0x1000 refused 3 ∷ PortWrite 0xCF8 1 0 refused 3 ∷ I 0xCF8 1 refused 3 ∷ I 0xCF8 4 gives 0 ∷ []) ∷
    -- CFCh <= port and port + width <= D00h
    (O 0xCF8 4 0x80001000 ∷ I 0xCFC 4 gives 0x01528086 ∷ I 0xCFF 1 gives 0x01 ∷ I 0xCFE 2 gives 0x0152 ∷ I 0xCFF 2 refused 3 ∷ I 0xCFE 4 refused 3 ∷ I 0xCFB 1 refused 3 ∷ I 0xD00 1 refused 3 ∷ []) ∷
    -- latch bit 31 set, bus 0, device 2, function 0
    (O 0xCF8 4 0x00001000 ∷ I 0xCFC 4 refused 3 ∷ PortWrite 0xCFC 4 0 refused 3 ∷ []) ∷
    (O 0xCF8 4 0x80011000 ∷ I 0xCFC 4 refused 4 ∷ O 0xCF8 4 0x80801000 ∷ I 0xCFC 4 refused 4 ∷ []) ∷
    (O 0xCF8 4 0x80000000 ∷ I 0xCFC 4 refused 4 ∷ O 0xCF8 4 0x80001800 ∷ I 0xCFC 4 refused 4 ∷ O 0xCF8 4 0x80003000 ∷ I 0xCFC 4 refused 4 ∷ O 0xCF8 4 0x80009000 ∷ I 0xCFC 4 refused 4 ∷ []) ∷
    (O 0xCF8 4 0x80001100 ∷ I 0xCFC 4 refused 4 ∷ O 0xCF8 4 0x80001200 ∷ I 0xCFC 4 refused 4 ∷ O 0xCF8 4 0x80001400 ∷ I 0xCFC 4 refused 4 ∷ []) ∷
    -- dword latch bits 7:2, lanes from port - CFCh, at each width
    (O 0xCF8 4 0x800010E7 ∷ O 0xCFC 4 0x11223344 ∷ R 0xE4 0xF gives 0x11223344 ∷ O 0xCFD 2 0xBEEF ∷ R 0xE4 0xF gives 0x11BEEF44 ∷ O 0xCFF 1 0xAA ∷ O 0xCFE 2 0x5566 ∷ R 0xE4 0xF gives 0x5566EF44 ∷ []) ∷
    (O 0xCF8 4 0x800010E4 ∷ O 0xCFC 2 0x1122 ∷ O 0xCFE 1 0x33 ∷ O 0xCFD 1 0x44 ∷ R 0xE4 0xF gives 0x00334422 ∷ []) ∷
    -- value bytes above the width are ignored on writes, 0 on reads
    (O 0xCF8 4 0x800010E4 ∷ O 0xCFC 1 0xFFFFFFAB ∷ R 0xE4 0xF gives 0x000000AB ∷ O 0xCFE 2 0xFFFF1234 ∷ I 0xCFC 4 gives 0x123400AB ∷ I 0xCFC 2 gives 0x000000AB ∷ I 0xCFD 1 gives 0 ∷ []) ∷
    -- Claims: memory needs PCICMD2 bit 1, I/O bit 0
    (W 0x10 0xF 0xF7800000 ∷ W 0x20 0xF 0x0000F000 ∷ W 0x04 0x1 5 ∷ memory 0xF7800000 unclaimed ∷ port 0xF000 (claimed io 0) ∷ W 0x04 0x1 6 ∷ memory 0xF7800000 (claimed translation 0) ∷ port 0xF000 unclaimed ∷ []) ∷
    -- power state 11 claims nothing
    (W 0x04 0x1 3 ∷ memory 0 (claimed translation 0) ∷ port 0 (claimed io 0) ∷ W 0xD4 0x1 3 ∷ memory 0 unclaimed ∷ port 0 unclaimed ∷ []) ∷
    -- GTTMMADR is 4 MB, IOBAR 64 bytes; the offset is the address modulo the size; bits 3:0, or 1:0, of the register are no part of the base
    (W 0x10 0xF 0xF7800000 ∷ W 0x04 0x1 2 ∷ memory 0xF7BFFFFF (claimed translation 0x3FFFFF) ∷ memory 0xF7C00000 unclaimed ∷ memory 0xF77FFFFF unclaimed ∷ []) ∷
    (W 0x20 0xF 0x0000F040 ∷ W 0x04 0x1 1 ∷ port 0xF07F (claimed io 0x3F) ∷ port 0xF080 unclaimed ∷ port 0xF03F unclaimed ∷ []) ∷
    -- the aperture: 256 MB under code 01, 128 MB under 00, 512 MB under 11
    (W 0x18 0xF 0xC0000000 ∷ W 0x04 0x1 2 ∷ memory 0xCFFFFFFF (claimed aperture 0xFFFFFFF) ∷ memory 0xD0000000 unclaimed ∷ memory 0xBFFFFFFF unclaimed ∷ []) ∷
    (W 0x60 0x4 0 ∷ W 0x18 0xF 0xC8000000 ∷ W 0x04 0x1 2 ∷ memory 0xCFFFFFFF (claimed aperture 0x7FFFFFF) ∷ memory 0xD0000000 unclaimed ∷ memory 0xC7FFFFFF unclaimed ∷ []) ∷
    (W 0x60 0x4 0x00060000 ∷ W 0x18 0xF 0xC0000000 ∷ W 0x04 0x1 2 ∷ memory 0xDFFFFFFF (claimed aperture 0x1FFFFFFF) ∷ memory 0xE0000000 unclaimed ∷ []) ∷
    -- all bits from the size upward, of 64; at the top of memory too
    (W 0x10 0xF 0xF7800000 ∷ W 0x14 0xF 1 ∷ W 0x04 0x1 2 ∷ memory 0xF7800000 unclaimed ∷ memory 0x1F7800000 (claimed translation 0) ∷ []) ∷
    (W 0x18 0xF 0xFFFFFFFF ∷ W 0x1C 0xF 0xFFFFFFFF ∷ W 0x04 0x1 2 ∷ memory 0xFFFFFFFFFFFFFFFF (claimed aperture 0xFFFFFFF) ∷ memory 0xFFFFFFFFEFFFFFFF unclaimed ∷ []) ∷
    -- If both memory windows hold it, GTTMMADR answers
    (W 0x04 0x1 2 ∷ memory 0x3FFFFF (claimed translation 0x3FFFFF) ∷ memory 0x400000 (claimed aperture 0x400000) ∷ []) ∷
    -- Refusals: direct 5 above 255 or for no multiple of 4, then 6 above 15
    (R 0xFC 0xF gives 0 ∷ R 0x100 0xF refused 5 ∷ R 0x01 0xF refused 5 ∷ R 0x02 0x10 refused 5 ∷ R 0x00 0x10 refused 6 ∷ Write 0x102 0x10 0 refused 5 ∷ Write 0x00 0x10 0 refused 6 ∷ []) ∷
    -- host 5 above 255, then 7 for a bit outside the host mask
    (H 0x0B 0xFF 0x03 ∷ HostUpdate 0x100 0x00 0 refused 5 ∷ HostUpdate 0x100 0x01 0 refused 5 ∷ HostUpdate 0x09 0x01 0 refused 7 ∷ HostUpdate 0x06 0x18 0 refused 7 ∷ H 0x06 0x08 0x08 ∷ []) ∷
    -- ports 2 for a width that is not 1, 2 or 4, then 3, then 4
    (I 0x0000 3 refused 2 ∷ I 0xCFC 0 refused 2 ∷ I 0x0000 4 refused 3 ∷ O 0xCF8 4 0x80011000 ∷ I 0xCFE 4 refused 3 ∷ I 0xCFC 3 refused 2 ∷ I 0xCFC 2 refused 4 ∷ PortWrite 0xCFC 4 0 refused 4 ∷ []) ∷
    -- W-202. While busy reads give FF in enabled lanes, writes are dropped and answered as accepted
    (W 0x04 0x1 7 ∷ A8 ∷ R 0x04 0xF gives 0xFFFFFFFF ∷ R 0xA8 0x1 gives 0xFFFFFFFF ∷ W 0xFC 0xF 0x12345678 ∷ W 0x2C 0xF 0x12345678 ∷ E ∷ R 0xFC 0xF gives 0 ∷ R 0x2C 0xF gives 0 ∷ R 0xA8 0xF gives 0 ∷ W 0x2C 0xF 0x9ABCDEF0 ∷ R 0x2C 0xF gives 0x9ABCDEF0 ∷ []) ∷
    (O 0xCF8 4 0x800010A8 ∷ O 0xCFC 1 1 ∷ I 0xCFC 4 gives 0xFFFFFFFF ∷ I 0xCFC 1 gives 0xFF ∷ O 0xCFC 1 0 ∷ I 0xCFD 2 gives 0xFFFF ∷ E ∷ I 0xCFC 1 gives 0 ∷ []) ∷
    -- nothing is claimed
    (W 0x3C 0x1 1 ∷ W 0x04 0x1 3 ∷ A8 ∷ memory 0 unclaimed ∷ port 0 unclaimed ∷ []) ∷
    -- host updates and the port latch work
    (A8 ∷ H 0x02 0xFF 0x11 ∷ O 0xCF8 4 0x80001000 ∷ I 0xCF8 4 gives 0x80001000 ∷ E ∷ R 0x00 0xF gives 0x01118086 ∷ []) ∷
    -- a platform reset ends it; an end signal when not busy changes nothing
    (A8 ∷ P ∷ R 0x00 0xF gives 0x01528086 ∷ []) ∷
    (W 0x04 0x1 7 ∷ E ∷ R 0x04 0xF gives 0x00900007 ∷ []) ∷
    -- refusals come first as before
    (A8 ∷ R 0x02 0xF refused 5 ∷ R 0x00 0x10 refused 6 ∷ Write 0x01 0xF 0 refused 5 ∷ Write 0x00 0x10 0 refused 6 ∷ I 0xCFC 3 refused 2 ∷ I 0xCFC 4 refused 3 ∷ HostUpdate 0x00 0x01 0 refused 7 ∷ []) ∷
    -- W-207. ASSRREQ: each bit is set only where its mask bit is 1 and both lanes are enabled; the mask reads 0; there are four
    (VW 0x0810C 0xF 0x00000001 ∷ U 0x0810C 0xF gives 0 ∷ VW 0x0810C 0xB 0x00020002 ∷ U 0x0810C 0xF gives 0 ∷ VW 0x0810C 0xE 0x00020002 ∷ U 0x0810C 0xF gives 0 ∷ VW 0x0810C 0xF 0xFFFF0006 ∷ U 0x0810C 0xF gives 6 ∷ VW 0x0810C 0xF 0xFFFF0008 ∷ U 0x0810C 0xF gives 0xE ∷ VW 0x0810C 0xF 0xFFFFFFF0 ∷ U 0x0810C 0xF gives 0xE ∷ []) ∷
    -- the host clears bits on completion; bits outside F give 7
    (VW 0x0810C 0x5 0x000F000F ∷ C 0x6 ∷ U 0x0810C 0xF gives 9 ∷ InWindow (Complete 0x10) refused 7 ∷ U 0x0810C 0xF gives 9 ∷ []) ∷
    -- FAULT_REG: stored with valid set only while valid is 0; a later fault is lost, though accepted
    (F 0x1152 ∷ U 0x04094 0xF gives 0x1153 ∷ F 0x4008 ∷ U 0x04094 0xF gives 0x1153 ∷ InWindow (Fault 0x1) refused 7 ∷ InWindow (Fault 0x8000) refused 7 ∷ []) ∷
    -- a write with lane 0 enabled and bit 0 zero clears it all; any other changes nothing
    (F 0x77FE ∷ VW 0x04094 0xF 0xFFFFFFFF ∷ VW 0x04094 0x1 1 ∷ VW 0x04094 0xE 0 ∷ VW 0x04094 0x0 0 ∷ U 0x04094 0xF gives 0x77FF ∷ VW 0x04094 0x1 0xFFFFFFFE ∷ U 0x04094 0xF gives 0 ∷ F 0x8 ∷ U 0x04094 0xF gives 9 ∷ []) ∷
    -- the host adds to the DRAM cycle sum, which wraps; read-only to the guest
    (N 0xFFFFFFFF ∷ U 0x138078 0xF gives 0xFFFFFFFF ∷ N 3 ∷ VW 0x138078 0xF 0x55 ∷ U 0x138078 0xF gives 2 ∷ []) ∷
    -- the mirrors and their masks, read-only to the guest
    (Y 0x1080C0 0xFFF00001 0x9AB00001 ∷ Y 0x1080C0 0x00100000 0 ∷ VW 0x1080C0 0xF 0 ∷ U 0x1080C0 0xF gives 0x9AA00001 ∷ InWindow (MirrorUpdate 0x1080C0 0x2 0) refused 7 ∷ []) ∷
    (Y 0x108080 0xFFF00001 0xFFFFFFFF ∷ U 0x108080 0xF gives 0xFFF00001 ∷ InWindow (MirrorUpdate 0x108080 0x80000 0) refused 7 ∷ []) ∷
    (Y 0x108084 0x7F 0xFFFFFFFF ∷ U 0x108084 0xF gives 0x7F ∷ InWindow (MirrorUpdate 0x108084 0x80 0) refused 7 ∷ InWindow (MirrorUpdate 0x108088 0x1 0) refused 7 ∷ Y 0x108088 0 0xFF ∷ []) ∷
    -- any other aligned offset below 4 MB reads 0 and ignores writes
    (VW 0x3FFFFC 0xF 0xFFFFFFFF ∷ U 0x3FFFFC 0xF gives 0 ∷ VW 0 0xF 0xFFFFFFFF ∷ U 0 0xF gives 0 ∷ R 0x00 0xF gives 0x01528086 ∷ []) ∷
    -- a function reset leaves the window; while busy reads give ones, guest writes are dropped, the host's changes are not
    (F 0x1152 ∷ VW 0x0810C 0xF 0x00030003 ∷ A8 ∷ U 0x04094 0x1 gives 0xFFFFFFFF ∷ VW 0x04094 0x1 0 ∷ VW 0x0810C 0xF 0x000C000C ∷ C 0x1 ∷ N 7 ∷ Y 0x1080C0 1 1 ∷ E ∷ U 0x04094 0xF gives 0x1153 ∷ U 0x0810C 0xF gives 2 ∷ U 0x138078 0xF gives 7 ∷ U 0x1080C0 0xF gives 1 ∷ []) ∷
    (A8 ∷ F 0x1152 ∷ E ∷ U 0x04094 0xF gives 0x1153 ∷ []) ∷
    -- W-206's lanes hold for it
    (F 0x1152 ∷ U 0x04094 0x1 gives 0xFFFFFF53 ∷ U 0x04094 0x2 gives 0xFFFF11FF ∷ U 0x04094 0x0 gives 0xFFFFFFFF ∷ []) ∷
    -- a platform reset clears it
    (F 0x1152 ∷ N 7 ∷ Y 0x1080C0 1 1 ∷ VW 0x0810C 0xF 0x00010001 ∷ P ∷ U 0x04094 0xF gives 0 ∷ U 0x138078 0xF gives 0 ∷ U 0x1080C0 0xF gives 0 ∷ U 0x0810C 0xF gives 0 ∷ []) ∷
    -- 16 above 3FFFFFh or for no multiple of 4, before 6 and 7
    (U 0x400000 0x10 refused 16 ∷ U 0x04096 0x10 refused 16 ∷ U 0x04094 0x10 refused 6 ∷ InWindow (WindowWrite 0x400000 0x10 0) refused 16 ∷ InWindow (WindowWrite 0x04094 0x10 0) refused 6 ∷ InWindow (MirrorUpdate 0x108082 0xFFFFFFFF 0) refused 16 ∷ InWindow (MirrorUpdate 0x108084 0xFFFFFFFF 0) refused 7 ∷ []) ∷
    []

-- ---- what a row claims: each step in turn is answered as it says

unfoldable pub Answered : State → List Step → Type 0
Answered s [] = Unit {0}
Answered s (says e r ∷ ts) = ((happens e s).reply ≡ r) × Answered (happens e s).state ts
Answered s (memory a c ∷ ts) = (memory_claim_of s a ≡ c) × Answered s ts
Answered s (port p c ∷ ts) = (io_claim_of s p ≡ c) × Answered s ts

-- at every row
unfoldable pub Each : (List Step → Type 0) → List (List Step) → Type 0
Each Q [] = Unit {0}
Each Q (r ∷ rs) = Q r × Each Q rs
