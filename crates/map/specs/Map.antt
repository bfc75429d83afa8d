-- The paper's table 'The register map': a row a register, in the paper's order; from it the class of each of the 2,048 bits, and the tables.
use Rattle.std.specs.Prelude.{List, [], ◌∷◌, ℕ, get_or}
use Rattle.any_map.specs.Map as M
use Rattle.any_map.specs.Map.{Row, row, Map, Rule, ◌on◌, ◌&◌, bits, class_at, table_of}
use Rattle.any_device.specs.Class.{device, stores, by_host, has_f}
use Rattle.map.specs.Registers.{VID2, DID2, PCICMD2, PCISTS2, RID2, CC, GTTMMADR, GMADR, IOBAR, SVID2, SID2, CAPPOINT, INTRLINE, INTRPIN, CAPID0, CAPCTRL0, CAPID0_A, CAPID0_B, MGGC0, DEVEN0, BDSM, HSRW, MSAC, VTD_STATUS, CAPL, MSI_CAPID, MC, MA, MD, AFCIDNP, AFLC, AFCTL, PMCAPID, PMCAP, PMCS, SWSMI, GSE, SWSCI, ASLS}
use Rattle.map.specs.Class.{Platform, ivy_bridge, svid2, sid2, swsci15, Class, read_only, host, guest, once, size_code, aperture, power_state, computed, reset_start, ◌F, ◌h}

-- every bit that no part has is read-only
abbrev pub only_read : Rule Class
only_read = []

--      at, by its name · bytes · default · rule
unfoldable pub rows : Platform → List (Row Class)
rows p =
    row VID2 2 0x8086 only_read ∷
    row DID2 2 0x0152 (host on 0xFFFF) ∷
    row PCICMD2 2 0x0000 (guest on 0x0407 F) ∷
    row PCISTS2 2 0x0090 (host on 0x0008) ∷
    row RID2 1 0x00 (host on 0xFF) ∷
    row CC 3 0x030000 (host on 0xFFFF00 h) ∷
    row GTTMMADR 8 0x4 (guest on bits 63 22 F h) ∷
    row GMADR 8 0xC (guest on bits 63 29 & aperture 28 on bits 28 28 & aperture 27 on bits 27 27 F h) ∷
    row IOBAR 4 0x1 (guest on 0x0000FFC0 F h) ∷
    row SVID2 2 0x0 (once svid2 on 0xFFFF) ∷
    row SID2 2 0x0 (once sid2 on 0xFFFF) ∷
    row CAPPOINT 1 0x90 (computed on 0xFF) ∷
    row INTRLINE 1 0x00 (guest on 0xFF) ∷
    row INTRPIN 1 0x01 only_read ∷
    row CAPID0 2 0x0009 only_read ∷
    row CAPCTRL0 2 0x010C only_read ∷
    row CAPID0_A 4 0x0 (host on 0xFFFFFFFF) ∷
    row CAPID0_B 4 0x0 (host on 0xFFFFFFFF) ∷
    row MGGC0 2 0x0028 (host on 0xFFFF) ∷
    row DEVEN0 4 0x0000209F (host on 0xFFFFFFFF) ∷
    row BDSM 4 0x0 (host on 0xFFFFFFFF) ∷
    row HSRW 2 0x0 (guest on 0xFFFF F h) ∷
    row MSAC 1 0x02 (guest on 0xF0 & size_code on 0x06) ∷
    row VTD_STATUS 1 0x0 (host on 0x01) ∷
    row CAPL 1 0x0 (guest on 0x01 h) ∷
    row MSI_CAPID 2 0xD005 only_read ∷
    row MC 2 0x0 (guest on 0x0071 F h) ∷
    row MA 4 0x0 (guest on 0xFFFFFFFC F h) ∷
    row MD 2 0x0 (guest on 0xFFFF F h) ∷
    row AFCIDNP 2 0x0013 only_read ∷
    row AFLC 2 0x0306 only_read ∷
    row AFCTL 1 0x0 (reset_start on 0x01) ∷
    row PMCAPID 2 0xA401 only_read ∷
    row PMCAP 2 0x0022 only_read ∷
    row PMCS 2 0x0 (power_state on 0x0003 F h) ∷
    row SWSMI 2 0x0 (guest on 0xFFFF h) ∷
    row GSE 4 0x0 (guest on 0xFFFFFFFF h) ∷
    row SWSCI 2 0x0 (guest on 0x7FFF & once swsci15 on 0x8000 h) ∷
    row ASLS 4 0x0 (guest on 0xFFFFFFFF h) ∷
    []

-- every byte that is not listed is read-only, 0
abbrev pub igd : Platform → Map Class
igd p = record { rows = rows p; unlisted = read_only }

-- ---- the class of each bit, on the one platform that there is

-- bit j of byte i
abbrev pub class_of : ℕ → ℕ → Class
class_of i j = class_at (igd ivy_bridge) i j

-- ---- the tables, a byte a place

abbrev pub defaults : List ℕ
defaults = M.defaults (igd ivy_bridge)

abbrev pub guests : List ℕ
guests = table_of (igd ivy_bridge) stores

abbrev pub hosts : List ℕ
hosts = table_of (igd ivy_bridge) (by_host device)

abbrev pub resets : List ℕ
resets = table_of (igd ivy_bridge) has_f

abbrev pub default_at : ℕ → ℕ
default_at i = get_or defaults i 0

abbrev pub guest_at : ℕ → ℕ
guest_at i = get_or guests i 0

abbrev pub host_at : ℕ → ℕ
host_at i = get_or hosts i 0

abbrev pub reset_at : ℕ → ℕ
reset_at i = get_or resets i 0
