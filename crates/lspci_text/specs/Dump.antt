-- The 256 bytes as `lspci -n -xxx` prints those of the function 00:02.0.
use Rattle.std.specs.Prelude.{List, [], ◌++◌, ℕ, zero, suc, ◌*◌, get_or}
use Rattle.line_forms.specs.Ascii.{ascii}
use Rattle.lspci_head.specs.Head.{low_pair, head_text}

-- f i, f (i + 1), .., k of them, one behind the other
unfoldable pub join_from : ℕ → (ℕ → List ℕ) → ℕ → List ℕ
join_from zero f i = []
join_from (suc k) f i = f i ++ join_from k f (suc i)

-- the byte at i after a space
unfoldable pub cell_text : List ℕ → ℕ → List ℕ
cell_text b i = ascii " " ++ low_pair (get_or b i 0)

-- row j: its offset, and sixteen bytes from there on
unfoldable pub row_text : List ℕ → ℕ → List ℕ
row_text b j = low_pair (j * 16) ++ (ascii ":" ++ (join_from 16 (cell_text b) (j * 16) ++ ascii "\n"))

-- the head, sixteen rows, and an empty line
unfoldable pub dump_text : List ℕ → List ℕ
dump_text b = head_text b ++ (ascii "\n" ++ (join_from 16 (row_text b) 0 ++ ascii "\n"))
