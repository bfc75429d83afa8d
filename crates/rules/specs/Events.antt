-- What each event gives, with any arguments, and what a run of events leaves. The events are declared in src/lib.rt.
use Rattle.std.specs.Prelude.{List}
use Rattle.answer.specs.Refusals.{Reply}
use Rattle.rules.specs.declared.State.{State}
use Rattle.rules.specs.declared.WindowEvent.{WindowEvent}
use Rattle.rules.specs.declared.WindowEvent.TheVariants.{WindowRead, WindowWrite, Complete, Fault, AddCycles, MirrorUpdate}
use Rattle.rules.specs.declared.Event.{Event}
use Rattle.rules.specs.declared.Event.TheVariants.{Read, Write, PortRead, PortWrite, HostUpdate, EndSignal, PlatformReset, InWindow}
use Rattle.rules.specs.Access.{Outcome, done}
use Rattle.rules.specs.Guest.{write_of}
use Rattle.rules.specs.Read.{read_of}
use Rattle.rules.specs.Host.{host_of}
use Rattle.rules.specs.Reset.{end_of}
use Rattle.rules.specs.Fresh.{fresh_of}
use Rattle.rules.specs.Window.{window_read_of, window_write_of, complete_of, fault_of, cycles_of, mirror_update_of}
use Rattle.rules.specs.Ports.{port_read_of, port_write_of}
use Rattle.past.specs.Past.{ran}

-- a read leaves the state
abbrev pub looked : Reply → State → Outcome
looked r s = record { reply = r; state = s }

unfoldable pub window_happens : WindowEvent → State → Outcome
window_happens (WindowRead o l) s = looked (window_read_of s o l) s
window_happens (WindowWrite o l v) s = window_write_of s o l v
window_happens (Complete m) s = complete_of s m
window_happens (Fault v) s = fault_of s v
window_happens (AddCycles n) s = done (cycles_of s n)
window_happens (MirrorUpdate o m v) s = mirror_update_of s o m v

-- what the entry of the event gives
unfoldable pub happens : Event → State → Outcome
happens (Read o l) s = looked (read_of s o l) s
happens (Write o l v) s = write_of s o l v
happens (PortRead p w) s = looked (port_read_of s p w) s
happens (PortWrite p w v) s = port_write_of s p w v
happens (HostUpdate o m v) s = host_of s o m v
happens EndSignal s = done (end_of s)
happens PlatformReset s = done fresh_of
happens (InWindow e) s = window_happens e s

-- the state that an event leaves
abbrev pub next : Event → State → State
next e s = (happens e s).state

abbrev pub run_from : State → List Event → State
run_from s es = ran next s es

-- a run starts from the fresh state
abbrev pub run : List Event → State
run es = run_from fresh_of es
