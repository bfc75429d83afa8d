-- The paper's table 'Refusal numbers', those of the change requests, and what an entry says.
-- Which definition decides each:
--    1 LENGTH           walk_of (walk, Walk)
--    2 WIDTH            bad_width (rules, Ports)
--    3 NOT_OURS         not_ours (rules, Ports)
--    4 OTHER_FUNCTION   other_function (rules, Ports)
--    5 OFFSET           bad_offset (rules, Access); of a host update 255 <? o (rules, Host)
--    6 LANES            bad_lanes, admit (rules, Access)
--    7 NOT_HOST         not_host (rules, Host); in the window beyond (rules, Window); of a sheet's device outside (rules, Plain)
--    8 NO_RANGE         probe_of, ranged (probe, Probe)
--    9 LINE             read_by (line_forms, Read), by the rows that a program takes (line_table, sheet_lines); of the door asked_at (door_table, Door)
--   10 POINTER          stops (walk, Walk)
--   11 ENDLESS          walk_from (walk, Walk)
--   12 SHEET_LENGTH, 13 SHEET_CONTENTS, 14 SHEET_BODY    check_of, sheet_no (sheet_rules, Check)
--   16 WINDOW_OFFSET    bad_window (rules, Window)
use Rattle.std.specs.Prelude.{ℕ}

abbrev pub LENGTH : ℕ
LENGTH = 1

abbrev pub WIDTH : ℕ
WIDTH = 2

abbrev pub NOT_OURS : ℕ
NOT_OURS = 3

abbrev pub OTHER_FUNCTION : ℕ
OTHER_FUNCTION = 4

abbrev pub OFFSET : ℕ
OFFSET = 5

abbrev pub LANES : ℕ
LANES = 6

abbrev pub NOT_HOST : ℕ
NOT_HOST = 7

abbrev pub NO_RANGE : ℕ
NO_RANGE = 8

abbrev pub LINE : ℕ
LINE = 9

abbrev pub POINTER : ℕ
POINTER = 10

abbrev pub ENDLESS : ℕ
ENDLESS = 11

-- a register sheet's

abbrev pub SHEET_LENGTH : ℕ
SHEET_LENGTH = 12

abbrev pub SHEET_CONTENTS : ℕ
SHEET_CONTENTS = 13

abbrev pub SHEET_BODY : ℕ
SHEET_BODY = 14

-- the window's

abbrev pub WINDOW_OFFSET : ℕ
WINDOW_OFFSET = 16

-- ---- what is said

pub data Reply : Type 0 where
  -- accepted, with no value
  fine : Reply
  -- accepted, with a value
  ok : ℕ → Reply
  -- refused
  no : ℕ → Reply

-- the refusal's number, or 0 where the entry accepts
abbrev pub number : Reply → ℕ
number fine = 0
number (ok v) = 0
number (no n) = n

-- the value; every refusal returns zero beside its number
abbrev pub value : Reply → ℕ
value fine = 0
value (ok v) = v
value (no n) = 0
