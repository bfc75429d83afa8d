-- Whatever the blocks that an input comes in, a snapshot shows the bytes after its lines.
use mathlib.Core.Path.{◌≡◌, refl, sym, ap, ◌∙◌}
use mathlib.Core.List.{List, [], ◌∷◌, ◌++◌}
use Prim.Native.Nat.{ℕ}
use Rattle.std.specs.Prelude.{Result, Ok}
use Rattle.rules.specs.declared.State.{State}
use Rattle.rules.specs.Fresh.{fresh_of}
use Rattle.rules.specs.Read.{image_of}
use Rattle.session.specs.Session.{all_lines, joins, after, blocks_state}
use Rattle.session.specs.Turn.{heard, Led}
use Rattle.session.proofs.Said.{blocks_whatever_said, heard_whatever_said, led_whatever_said}
use Rattle.console_lines.specs.Console.{line_next, line_say}
use Rattle.console_lines.proofs.Blocks.{console_after}
use Rattle.lspci_text.specs.Dump.{dump_text}
use Rattle.snapshot_session.specs.Shown.{snapshot_of, Played, PlayedInBlocks, Shown}
use Rattle.snapshot_session.specs.Silence.{silence}

pub snapshot_is : (xs : List (List ℕ)) → dump_text (image_of (blocks_state line_next line_say 27 fresh_of [] xs)) ≡ snapshot_of (joins xs)
snapshot_is xs = ap (λ (s : State). dump_text (image_of s)) (console_after xs)

-- ---- a silent console

-- whatever state it starts from, what it leaves is what a console leaves that says its answers
pub blocks_silently : (xs : List (List ℕ)) (s : State) (k : List ℕ) → blocks_state line_next silence 27 s k xs ≡ blocks_state line_next line_say 27 s k xs
blocks_silently xs s k = blocks_whatever_said line_next silence line_say 27 xs s k

pub heard_silently : (xs : List (List ℕ)) (s : State) (k : List ℕ) → (heard line_next silence 27 s k xs).state ≡ (heard line_next line_say 27 s k xs).state
heard_silently xs s k = (heard_whatever_said line_next silence line_say 27 xs s k).0

-- so a session of it leads where the console's leads
pub led_silently : {A E : Type 0} (r : Result A E) (s u : State) → Led line_next silence 27 r s u → Led line_next line_say 27 r s u
led_silently r s u l = led_whatever_said line_next silence line_say 27 r s u l

-- what a silent console says changes no state
silent : (s : State) (ls : List (List ℕ)) → after line_next silence s ls ≡ after line_next line_say s ls
unfolding after
silent s [] = refl
silent s (l ∷ ls) = silent (line_next s l) ls

-- the state that the session left
pub played : (first end : State) → first ≡ fresh_of → (xs : List ℕ) × (after line_next silence first (all_lines xs) ≡ end) → Played end
played first end f l = (l.0, sym (silent fresh_of (all_lines l.0)) ∙ rw f at l.1)

-- and the dump of it behind nothing
pub shown : (s : State) (none text : List ℕ) → Played s → none ≡ [] → text ≡ none ++ dump_text (image_of s) → Shown text
shown s none text p n d = (p.0, ap (λ (t : State). dump_text (image_of t)) p.1 ∙ sym (d ∙ ap (λ (t : List ℕ). t ++ dump_text (image_of s)) n))

-- ---- the same by the blocks that the input came in

pub played_in_blocks : (first end : State) → first ≡ fresh_of → (xs : List (List ℕ)) × (blocks_state line_next silence 27 first [] xs ≡ end) → PlayedInBlocks end
played_in_blocks first end f l = led_silently {A = Unit {0}} {E = ⊥} (Ok tt) fresh_of end (l.0, rw f at l.1)

pub shown_in_blocks : (s : State) (none text : List ℕ) → PlayedInBlocks s → none ≡ [] → text ≡ none ++ dump_text (image_of s) → Shown text
shown_in_blocks s none text p n d = (joins p.0, sym (snapshot_is p.0) ∙ ap (λ (t : State). dump_text (image_of t)) p.1 ∙ sym (d ∙ ap (λ (t : List ℕ). t ++ dump_text (image_of s)) n))
