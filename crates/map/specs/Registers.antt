-- Where each register stands: the paper's columns 'At' and 'Name', in the paper's order.
use Rattle.std.specs.Prelude.{ℕ}

abbrev pub VID2 : ℕ
VID2 = 0x00

abbrev pub DID2 : ℕ
DID2 = 0x02

abbrev pub PCICMD2 : ℕ
PCICMD2 = 0x04

abbrev pub PCISTS2 : ℕ
PCISTS2 = 0x06

abbrev pub RID2 : ℕ
RID2 = 0x08

abbrev pub CC : ℕ
CC = 0x09

abbrev pub GTTMMADR : ℕ
GTTMMADR = 0x10

abbrev pub GMADR : ℕ
GMADR = 0x18

abbrev pub IOBAR : ℕ
IOBAR = 0x20

abbrev pub SVID2 : ℕ
SVID2 = 0x2C

abbrev pub SID2 : ℕ
SID2 = 0x2E

abbrev pub CAPPOINT : ℕ
CAPPOINT = 0x34

abbrev pub INTRLINE : ℕ
INTRLINE = 0x3C

abbrev pub INTRPIN : ℕ
INTRPIN = 0x3D

abbrev pub CAPID0 : ℕ
CAPID0 = 0x40

abbrev pub CAPCTRL0 : ℕ
CAPCTRL0 = 0x42

abbrev pub CAPID0_A : ℕ
CAPID0_A = 0x44

abbrev pub CAPID0_B : ℕ
CAPID0_B = 0x48

abbrev pub MGGC0 : ℕ
MGGC0 = 0x50

abbrev pub DEVEN0 : ℕ
DEVEN0 = 0x54

abbrev pub BDSM : ℕ
BDSM = 0x5C

abbrev pub HSRW : ℕ
HSRW = 0x60

abbrev pub MSAC : ℕ
MSAC = 0x62

abbrev pub VTD_STATUS : ℕ
VTD_STATUS = 0x63

abbrev pub CAPL : ℕ
CAPL = 0x7F

abbrev pub MSI_CAPID : ℕ
MSI_CAPID = 0x90

abbrev pub MC : ℕ
MC = 0x92

abbrev pub MA : ℕ
MA = 0x94

abbrev pub MD : ℕ
MD = 0x98

abbrev pub AFCIDNP : ℕ
AFCIDNP = 0xA4

abbrev pub AFLC : ℕ
AFLC = 0xA6

abbrev pub AFCTL : ℕ
AFCTL = 0xA8

abbrev pub PMCAPID : ℕ
PMCAPID = 0xD0

abbrev pub PMCAP : ℕ
PMCAP = 0xD2

abbrev pub PMCS : ℕ
PMCS = 0xD4

abbrev pub SWSMI : ℕ
SWSMI = 0xE0

abbrev pub GSE : ℕ
GSE = 0xE4

abbrev pub SWSCI : ℕ
SWSCI = 0xE8

abbrev pub ASLS : ℕ
ASLS = 0xFC
