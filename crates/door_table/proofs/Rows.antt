-- The operation of each number and the greatest value of each argument, once more, by example: what the header of the library says.
use mathlib.Core.Path.{◌≡◌, refl}
use Rattle.std.specs.Prelude.{None, Some}
use Rattle.rules.specs.declared.Event.TheVariants as E
use Rattle.rules.specs.declared.WindowEvent.TheVariants as W
use Rattle.asked.specs.declared.Asked.TheVariants as Q
use Rattle.asked.specs.declared.Look.TheVariants as L
use Rattle.door_table.specs.Door.{doors, asked_at}

-- ---- the operations, by their numbers

platform_reset : asked_at doors 0 1 2 3 ≡ Some (Q.Event E.PlatformReset)
platform_reset = refl

guest_write_lem : asked_at doors 1 0x2C 0xF 0x12345678 ≡ Some (Q.Event (E.Write 0x2C 0xF 0x12345678))
guest_write_lem = refl

guest_read : asked_at doors 2 0x2C 0xF 3 ≡ Some (Q.Event (E.Read 0x2C 0xF))
guest_read = refl

host_update : asked_at doors 3 0x0B 0xFF 0x03 ≡ Some (Q.Event (E.HostUpdate 0x0B 0xFF 0x03))
host_update = refl

port_write : asked_at doors 4 0xCF8 4 0x80001004 ≡ Some (Q.Event (E.PortWrite 0xCF8 4 0x80001004))
port_write = refl

port_read : asked_at doors 5 0xCFC 2 3 ≡ Some (Q.Event (E.PortRead 0xCFC 2))
port_read = refl

-- low dword, high dword
claim_memory : asked_at doors 6 0xFE000000 0x12 3 ≡ Some (Q.Look (L.Memory 0x12FE000000))
claim_memory = refl

claim_port : asked_at doors 7 0x3C0 2 3 ≡ Some (Q.Look (L.Port 0x3C0))
claim_port = refl

size_probe : asked_at doors 8 0xFFC00004 0xFFFFFFFF 3 ≡ Some (Q.Look (L.Probe 0xFFC00004 0xFFFFFFFF))
size_probe = refl

capability_walk : asked_at doors 9 0x05 2 3 ≡ Some (Q.Look (L.Walk 0x05))
capability_walk = refl

end_signal : asked_at doors 10 1 2 3 ≡ Some (Q.Event E.EndSignal)
end_signal = refl

window_write : asked_at doors 11 0x4094 0xF 1 ≡ Some (Q.Event (E.InWindow (W.WindowWrite 0x4094 0xF 1)))
window_write = refl

window_read : asked_at doors 12 0x810C 0xF 3 ≡ Some (Q.Event (E.InWindow (W.WindowRead 0x810C 0xF)))
window_read = refl

complete : asked_at doors 13 0x5 2 3 ≡ Some (Q.Event (E.InWindow (W.Complete 0x5)))
complete = refl

fault : asked_at doors 14 0x1001 2 3 ≡ Some (Q.Event (E.InWindow (W.Fault 0x1001)))
fault = refl

add_cycles : asked_at doors 15 0x64 2 3 ≡ Some (Q.Event (E.InWindow (W.AddCycles 0x64)))
add_cycles = refl

mirror_update : asked_at doors 16 0x1080C0 0xFFF00000 0x7F800000 ≡ Some (Q.Event (E.InWindow (W.MirrorUpdate 0x1080C0 0xFFF00000 0x7F800000)))
mirror_update = refl

-- ---- any other number asks nothing

number_17 : asked_at doors 17 0 0 0 ≡ None
number_17 = refl

greatest_number : asked_at doors 0xFFFFFFFF 0 0 0 ≡ None
greatest_number = refl

-- ---- the greatest values of arguments, and the next ones

mask_FF : asked_at doors 3 0 255 0 ≡ Some (Q.Event (E.HostUpdate 0 255 0))
mask_FF = refl

mask_100 : asked_at doors 3 0 256 0 ≡ None
mask_100 = refl

value_FF : asked_at doors 3 0 0 255 ≡ Some (Q.Event (E.HostUpdate 0 0 255))
value_FF = refl

value_100 : asked_at doors 3 0 0 256 ≡ None
value_100 = refl

write_port_FFFF : asked_at doors 4 65535 1 0 ≡ Some (Q.Event (E.PortWrite 65535 1 0))
write_port_FFFF = refl

write_port_10000 : asked_at doors 4 65536 1 0 ≡ None
write_port_10000 = refl

read_port_FFFF : asked_at doors 5 65535 1 0 ≡ Some (Q.Event (E.PortRead 65535 1))
read_port_FFFF = refl

read_port_10000 : asked_at doors 5 65536 1 0 ≡ None
read_port_10000 = refl

claim_port_FFFF : asked_at doors 7 65535 0 0 ≡ Some (Q.Look (L.Port 65535))
claim_port_FFFF = refl

claim_port_10000 : asked_at doors 7 65536 0 0 ≡ None
claim_port_10000 = refl

id_FF : asked_at doors 9 255 0 0 ≡ Some (Q.Look (L.Walk 255))
id_FF = refl

id_100 : asked_at doors 9 256 0 0 ≡ None
id_100 = refl
