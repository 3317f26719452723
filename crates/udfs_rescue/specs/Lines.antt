-- What the lines of a mapfile say, and the first fault.
use Rattle.std.specs.Prelude.{◌≡◌, ℕ, ◌+◌, ◌-◌, ◌^◌, ◌%◌, Bool, true, false, not, List, [], ◌∷◌, ◌++◌, length, Option, Some, None, Result, Ok, Err, nat_lt, ◌==◌, ◌&&◌, ◌||◌, if◌then◌else◌, codes}
use Rattle.std.specs.Str.{bytes_eq}
use Rattle.udfs_rescue.specs.declared.run.Run.{Run}
use Rattle.udfs_rescue.specs.declared.run.RunStatus.{RunStatus}
use Rattle.udfs_rescue.specs.declared.run.RunStatus.TheVariants.{NonTried, NonTrimmed, NonScraped, BadSector, Finished}
use Rattle.udfs_rescue.specs.declared.fault.MapFault.{MapFault}
use Rattle.udfs_rescue.specs.declared.fault.MapFault.TheVariants.{NotStatusLine, NotRun, TooLarge, NotContiguous, SizeZero, NoRuns, NotPass}
use Rattle.udfs_rescue.specs.declared.fault.LineFault.{LineFault}
use Rattle.udfs_rescue.specs.Numbers.{number_of, decimal_of}
use Rattle.udfs_rescue.specs.Words.{is_blank, skip, words}

-- two or three words, the third empty if there are two; None for any other number of words
abbrev pub parts : List (List ℕ) → Option (List ℕ × List ℕ × List ℕ)
parts [] = None
parts (a ∷ []) = None
parts (a ∷ b ∷ []) = Some (a, b, [])
parts (a ∷ b ∷ c ∷ []) = Some (a, b, c)
parts (a ∷ b ∷ c ∷ d ∷ ws) = None

-- ---- the words of a status line: a number, what ddrescue was doing, and the pass, a decimal number from 1 on

-- one of ?, *, /, -, F, G and +
abbrev pub is_phase_byte : ℕ → Bool
is_phase_byte b = b == 63 || (b == 42 || (b == 47 || (b == 45 || (b == 70 || (b == 71 || b == 43)))))

-- whether a word is the letter of a phase
abbrev pub is_phase : List ℕ → Bool
is_phase [] = false
is_phase (b ∷ []) = is_phase_byte b
is_phase (b ∷ c ∷ bs) = false

-- a position, if the pass after it is a number other than 0
abbrev pub with_pass : Option ℕ → Option ℕ → Option ℕ
with_pass None pass = None
with_pass (Some n) None = None
with_pass (Some n) (Some pass) = if pass == 0 then None else Some n

-- the position in a status line; the pass may be any decimal number but 0
abbrev pub status_by : Option (List ℕ × List ℕ × List ℕ) → Option ℕ
status_by None = None
status_by (Some w) = if not (is_phase w.1) then None else if length w.2 == 0 then number_of w.0 else with_pass (number_of w.0) (decimal_of w.2)

-- the position that a status line gives, if it is one
abbrev pub status_of : List (List ℕ) → Option ℕ
status_of ws = status_by (parts ws)

-- ---- the words of a run: where it begins, its size, and its status

-- the status of ?, *, /, - and +, and of no other byte
abbrev pub run_status_byte : ℕ → Option RunStatus
run_status_byte b =
    if b == 63 then Some NonTried else
    if b == 42 then Some NonTrimmed else
    if b == 47 then Some NonScraped else
    if b == 45 then Some BadSector else
    if b == 43 then Some Finished else None

-- the status that a word gives, if it is one
abbrev pub run_status : List ℕ → Option RunStatus
run_status [] = None
run_status (b ∷ []) = run_status_byte b
run_status (b ∷ c ∷ bs) = None

-- a run, if all three of its words are well-formed
abbrev pub run_by : Option ℕ → Option ℕ → Option RunStatus → Option Run
run_by None size status = None
run_by (Some at) None status = None
run_by (Some at) (Some size) None = None
run_by (Some at) (Some size) (Some status) = Some (record { at = at; size = size; status = status })

-- the run that three words give, if they are well-formed
abbrev pub run_in : Option (List ℕ × List ℕ × List ℕ) → Option Run
run_in None = None
run_in (Some w) = run_by (number_of w.0) (number_of w.1) (run_status w.2)

-- the run that the words of a line give, if they are well-formed
abbrev pub run_of : List (List ℕ) → Option Run
run_of ws = run_in (parts ws)

-- ---- one line after another

-- whether the status line came, where the next run has to begin (None: anywhere), and the runs so far
pub record Progress : Type 0 where
  pub begun : Bool
  pub due : Option ℕ
  pub runs : List Run

-- before the first line
abbrev pub nothing : Progress
nothing = record { begun = false; due = None; runs = [] }

-- whether a run begins where the last one ended
abbrev pub is_due : Option ℕ → ℕ → Bool
is_due None at = true
is_due (Some due) at = due == at

-- what has come after a status line, or its fault
abbrev pub after_status : Progress → Option ℕ → Result Progress MapFault
after_status p None = Err NotStatusLine
after_status p (Some n) = if nat_lt n (2 ^ 63) then Ok (record { begun = true; due = p.due; runs = p.runs }) else Err TooLarge

-- what has come after a run's line, or its fault
abbrev pub after_run : Progress → Option Run → Result Progress MapFault
after_run p None = Err NotRun
after_run p (Some r) =
    if not (nat_lt (r.at + r.size) (2 ^ 63)) then Err TooLarge else
    if not (is_due p.due r.at) then Err NotContiguous else
    if r.size == 0 && not (r.at == 0) then Err SizeZero else
    Ok (record { begun = p.begun; due = Some (r.at + r.size); runs = p.runs ++ r ∷ [] })

-- what has come after a line of these words, or its fault; a line without words changes nothing
abbrev pub after_words : Progress → List (List ℕ) → Result Progress MapFault
after_words p [] = Ok p
after_words p (w ∷ ws) = if p.begun then after_run p (run_of (w ∷ ws)) else after_status p (status_of (w ∷ ws))

-- what a line lacks that is neither
abbrev pub unlike : Progress → MapFault
unlike p = if p.begun then NotRun else NotStatusLine

-- the text of a line is at most 127 bytes
abbrev pub after_text : Progress → List ℕ → Result Progress MapFault
after_text p text = if nat_lt 127 (length text) then Err (unlike p) else after_words p (words text)

-- the bytes before the comment: a # begins one at the beginning of a line, or after a blank
abbrev pub before_comment : Bool → List ℕ → List ℕ
before_comment blank [] = []
before_comment blank (b ∷ bs) = if blank && b == 35 then [] else b ∷ before_comment (is_blank b) bs

-- the text of a line: the bytes before the comment, without leading blanks
abbrev pub text_of : List ℕ → List ℕ
text_of line = skip (before_comment true line)

-- the comment of a list of blocks to read again
unfoldable pub mark : List ℕ
mark = codes "# Blocks to read again, for ddrescue -m: not the mapfile of a pass"

-- a line is that comment, a CR at its end left aside
unfoldable pub is_mark : List ℕ → Bool
is_mark line = bytes_eq line mark || bytes_eq line (mark ++ 13 ∷ [])

-- what has come after a line, or its fault: that comment is a fault on any line, and of other lines the text is judged
abbrev pub after_line : Progress → List ℕ → Result Progress MapFault
after_line p line = if is_mark line then Err NotPass else after_text p (text_of line)

-- ---- the whole mapfile

-- these lines, the first of them preceded by the byte b; or, without a line, the line of this byte
abbrev pub with_first : ℕ → List (List ℕ) → List (List ℕ)
with_first b [] = (b ∷ []) ∷ []
with_first b (line ∷ lines) = (b ∷ line) ∷ lines

-- the lines of a text, separated by LF; after the last LF there is one more line, which may be empty
abbrev pub lines_of : List ℕ → List (List ℕ)
lines_of [] = [] ∷ []
lines_of (b ∷ bs) = if b == 10 then [] ∷ lines_of bs else with_first b (lines_of bs)

-- lines are counted modulo 2 ^ 64
abbrev pub next_line : ℕ → ℕ
next_line n = (n + 1) % 2 ^ 64

-- and the line before is the one that comes to it
abbrev pub line_before : ℕ → ℕ
line_before n = (n + (2 ^ 64 - 1)) % 2 ^ 64

-- what a mapfile comes to that ends with this line: its runs, or its fault where it has none
abbrev pub ended : ℕ → List Run → Result (List Run) LineFault
ended n runs = if length runs == 0 then Err (record { line = n; fault = NoRuns }) else Ok runs

-- the runs, or the first fault and its line, of these lines, the first of which has number n, after the lines that came to p
abbrev pub after_lines : ℕ → Progress → List (List ℕ) → Result (List Run) LineFault
after_lines n p [] = ended (line_before n) p.runs
after_lines n p (line ∷ lines) = elim (after_line p line) as (λ r. Result (List Run) LineFault) [ Ok q ↦ after_lines (next_line n) q lines | Err fault ↦ Err (record { line = n; fault = fault }) ]

-- the outcome for every list of bytes
abbrev pub outcome : List ℕ → Result (List Run) LineFault
outcome bytes = after_lines 1 nothing (lines_of bytes)

-- the lines that are left: those of these bytes, or none
abbrev pub lines_left : Bool → List ℕ → List (List ℕ)
lines_left true bytes = lines_of bytes
lines_left false bytes = []

-- lines whose first begins with these bytes
abbrev pub onto : List ℕ → List (List ℕ) → List (List ℕ)
onto front [] = front ∷ []
onto front (line ∷ lines) = (front ++ line) ∷ lines

-- whatever follows these bytes, the lines that they end have no fault: the outcome is that of the line begun, and of what follows
pub record HasNoFaultYet (got : List ℕ) : Type 0 where
  pub line : ℕ
  pub so_far : Progress
  pub begun : List ℕ
  pub whatever : (rest : List ℕ) → outcome (got ++ rest) ≡ after_lines line so_far (onto begun (lines_of rest))
