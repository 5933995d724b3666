-- Document 01's example of a printed job: the file, and the text that runjob prints for it.
use Rattle.std.specs.Prelude.{List, [], ◌∷◌, ◌++◌, ℕ}
use Rattle.machine.specs.Bytes.{bytes_of}
use Rattle.job.specs.JobFile.{file_record}

abbrev pub slot_record : ℕ → ℕ → List ℕ
slot_record opcode argument = file_record 12 (bytes_of 2 opcode ++ bytes_of 8 argument)

abbrev pub digest_record : List ℕ
digest_record = file_record 11 (bytes_of 8 1 ++ bytes_of 8 2 ++ bytes_of 8 3 ++ bytes_of 8 4 ++ bytes_of 8 5)

unfoldable pub example_file : List ℕ
example_file =
    -- digest 1 2 3 4 5
    digest_record
    -- push 3, push 4
    ++ slot_record 1 3 ++ slot_record 1 3 ++ slot_record 1 4 ++ slot_record 1 4
    -- add, write_io 1, halt
    ++ slot_record 42 0 ++ slot_record 19 1 ++ slot_record 19 1 ++ slot_record 0 0

unfoldable pub example_text : List ℕ
example_text =
    -- stack 0 16 write 5
    115 ∷ 116 ∷ 97 ∷ 99 ∷ 107 ∷ 32 ∷ 48 ∷ 32 ∷ 49 ∷ 54 ∷ 32 ∷ 119 ∷ 114 ∷ 105 ∷ 116 ∷ 101 ∷ 32 ∷ 53 ∷ 10 ∷
    -- stack 1 17 write 4
    115 ∷ 116 ∷ 97 ∷ 99 ∷ 107 ∷ 32 ∷ 49 ∷ 32 ∷ 49 ∷ 55 ∷ 32 ∷ 119 ∷ 114 ∷ 105 ∷ 116 ∷ 101 ∷ 32 ∷ 52 ∷ 10 ∷
    -- stack 2 17 read 4
    115 ∷ 116 ∷ 97 ∷ 99 ∷ 107 ∷ 32 ∷ 50 ∷ 32 ∷ 49 ∷ 55 ∷ 32 ∷ 114 ∷ 101 ∷ 97 ∷ 100 ∷ 32 ∷ 52 ∷ 10 ∷
    -- stack 3 16 read 5
    115 ∷ 116 ∷ 97 ∷ 99 ∷ 107 ∷ 32 ∷ 51 ∷ 32 ∷ 49 ∷ 54 ∷ 32 ∷ 114 ∷ 101 ∷ 97 ∷ 100 ∷ 32 ∷ 53 ∷ 10 ∷
    -- out 7
    111 ∷ 117 ∷ 116 ∷ 32 ∷ 55 ∷ 10 ∷
    -- end halted 5 8 16
    101 ∷ 110 ∷ 100 ∷ 32 ∷ 104 ∷ 97 ∷ 108 ∷ 116 ∷ 101 ∷ 100 ∷ 32 ∷ 53 ∷ 32 ∷ 56 ∷ 32 ∷ 49 ∷ 54 ∷ 10 ∷
    []
