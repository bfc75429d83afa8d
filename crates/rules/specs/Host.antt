-- A host update of the byte at offset o, with a mask byte and a value byte ('How a bit behaves').
use Rattle.std.specs.Prelude.{Bool, ℕ}
use Rattle.bits.specs.Choice.{when◌then◌else◌, ◌<?◌}
use Rattle.answer.specs.Refusals.{OFFSET, NOT_HOST}
use Rattle.plain.specs.Plain.{Bits, made}
use Rattle.any_device.specs.Class.{device}
use Rattle.any_device.specs.Device as D
use Rattle.map.specs.Class.{ivy_bridge}
use Rattle.rules.specs.declared.State.{State}
use Rattle.rules.specs.Access.{holding, Outcome, done, refused}
use Rattle.rules.specs.Device.{built_in, core}

-- the mask has a bit outside the host mask
abbrev pub not_host : ℕ → ℕ → Bool
not_host o m = D.not_hosted built_in ivy_bridge device o m

-- masked bits take the value's bits
abbrev pub host_bit : State → ℕ → ℕ → ℕ → Bits
host_bit s o m v = D.updated_bit built_in (core s) o m v

unfoldable pub host_step_of : State → ℕ → ℕ → ℕ → State
host_step_of s o m v = holding s (made (host_bit s o m v)) s.flags

unfoldable pub host_of : State → ℕ → ℕ → ℕ → Outcome
host_of s o m v =
    when 255 <? o then refused OFFSET s
    else when not_host o m then refused NOT_HOST s
    else done (host_step_of s o m v)
