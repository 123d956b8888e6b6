-- The number of each answer, as C has it. None has another's, whichever call it answers.
use Rattle.std.specs.Prelude.{ℕ}

abbrev pub answer_rows : ℕ
answer_rows = 0

abbrev pub answer_hole : ℕ
answer_hole = 1

abbrev pub answer_send : ℕ
answer_send = 2

abbrev pub answer_waiting : ℕ
answer_waiting = 3

abbrev pub answer_filled : ℕ
answer_filled = 4

abbrev pub answer_done : ℕ
answer_done = 5

abbrev pub answer_not_asked : ℕ
answer_not_asked = 6

abbrev pub answer_already : ℕ
answer_already = 7

abbrev pub answer_stale : ℕ
answer_stale = 8

abbrev pub answer_dropped : ℕ
answer_dropped = 9

abbrev pub answer_no_row : ℕ
answer_no_row = 10

abbrev pub answer_too_many : ℕ
answer_too_many = 11

abbrev pub answer_no_slot : ℕ
answer_no_slot = 12

abbrev pub answer_evicted : ℕ
answer_evicted = 13

abbrev pub answer_cancelled : ℕ
answer_cancelled = 14

abbrev pub answer_nothing : ℕ
answer_nothing = 15

abbrev pub answer_worn : ℕ
answer_worn = 16

abbrev pub answer_asked : ℕ
answer_asked = 17

abbrev pub answer_bad_batch : ℕ
answer_bad_batch = 18

abbrev pub answer_not_sorted : ℕ
answer_not_sorted = 19

abbrev pub answer_bad_size : ℕ
answer_bad_size = 20

abbrev pub answer_no_memory : ℕ
answer_no_memory = 21

abbrev pub answer_no_reader : ℕ
answer_no_reader = 22

abbrev pub answer_no_poster : ℕ
answer_no_poster = 23

abbrev pub answer_full : ℕ
answer_full = 24

abbrev pub answer_empty : ℕ
answer_empty = 25

abbrev pub answer_other : ℕ
answer_other = 26

abbrev pub answer_no_key : ℕ
answer_no_key = 27

abbrev pub answer_holding : ℕ
answer_holding = 28

abbrev pub answer_not_holding : ℕ
answer_not_holding = 29

abbrev pub answer_all_filled : ℕ
answer_all_filled = 30

abbrev pub answer_closed : ℕ
answer_closed = 31

abbrev pub answer_live : ℕ
answer_live = 32

abbrev pub answer_in_the_way : ℕ
answer_in_the_way = 33

abbrev pub answer_given : ℕ
answer_given = 34

abbrev pub answer_held : ℕ
answer_held = 35

abbrev pub answer_readers_out : ℕ
answer_readers_out = 36

abbrev pub answer_named : ℕ
answer_named = 37

abbrev pub answer_bad_row : ℕ
answer_bad_row = 38

abbrev pub answer_stranger : ℕ
answer_stranger = 39

abbrev pub answer_all_asked : ℕ
answer_all_asked = 40

abbrev pub answer_own : ℕ
answer_own = 41

-- the version 0.3.0, whose numbers have 8 bits each
abbrev pub version : ℕ
version = 768
