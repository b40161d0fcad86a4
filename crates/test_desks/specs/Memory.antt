-- What is seen of a desk and a sink in memory.
use Rattle.std.specs.Prelude.{◌≡◌, ℕ, Bool, List, ◌++◌, take, Vec, String, fold, Option, Some, option_map, string_bytes, IfSome, MatchBool}
use Rattle.std.specs.declared.alloc.Global.{Global}
use Rattle.std.specs.BTreeMap.{BTreeMap, get_by_text}
use Rattle.plan_desk.specs.Desk.{Files, no_files, with_file}
use Rattle.plan_desk.specs.Counts.{counted}
use Rattle.test_desks.specs.Failing.{bytes_left, IsListed}
use Rattle.plan_desk.specs.declared.file.DeskFile.{DeskFile}
use Rattle.test_desks.specs.declared.failing.FailingCall.{FailingCall}
use Rattle.test_desks.specs.declared.memory_desk.MemoryDesk.{MemoryDesk}
use Rattle.test_desks.specs.declared.memory_sink.MemorySink.{MemorySink}

-- what stands under each name of a map
abbrev pub files_in : BTreeMap (String Global) (Vec ℕ Global) → Files
files_in map name = option_map (λ bytes. bytes.items) (get_by_text map name)

-- what stands after the entries are laid down in turn, so that of one name the last stands
abbrev pub laid_down : List (String Global × Vec ℕ Global) → Files
laid_down entries = fold (λ files entry. with_file files (string_bytes entry.0) (Some entry.1.items)) no_files entries

-- what stands under each name of a desk
abbrev pub files_of : MemoryDesk → Files
files_of desk = files_in desk.files

-- how many calls were made
abbrev pub calls_of : MemoryDesk → ℕ
calls_of desk = desk.plan.made

-- the calls that are to fail
abbrev pub failing_of : MemoryDesk → List FailingCall
failing_of desk = desk.plan.failing.items

-- how many faults were counted
abbrev pub faults_of : MemoryDesk → ℕ
faults_of desk = desk.faults.count

-- the file of the last call that answered `Failed`
abbrev pub blamed_of : MemoryDesk → Option DeskFile
blamed_of desk = desk.faults.blamed

-- how many bytes reads took
abbrev pub taken_of : MemoryDesk → ℕ
taken_of desk = desk.taken

-- the last write that was to fail had no memory for what it leaves
abbrev pub had_no_memory : MemoryDesk → Bool
had_no_memory desk = desk.no_memory

-- how many first bytes the next call leaves, where it is to fail
abbrev pub next_bytes_left : MemoryDesk → Option ℕ
next_bytes_left desk = bytes_left (counted (calls_of desk) 1) (failing_of desk)

-- what a write that failed leaves under its name: its first bytes or, without memory for them, what stood there
abbrev pub IsCutWrite : List ℕ → List ℕ → MemoryDesk → MemoryDesk → Type 0
IsCutWrite name bytes old new =
    IfSome (next_bytes_left old) (λ n. MatchBool (had_no_memory new) (files_of new ≡ files_of old) (files_of new ≡ with_file (files_of old) name (Some (take n bytes))))

-- the next call is in the list of those that are to fail
abbrev pub IsToFail : MemoryDesk → Type 0
IsToFail desk = IsListed (counted (calls_of desk) 1) (failing_of desk)

-- the bytes that were put
abbrev pub put_bytes_of : MemorySink → List ℕ
put_bytes_of sink = sink.output.items

-- how many puts were made
abbrev pub puts_of : MemorySink → ℕ
puts_of sink = sink.plan.made

-- how many bytes the puts were handed
abbrev pub handed_of : MemorySink → ℕ
handed_of sink = sink.handed

-- the puts that are to fail
abbrev pub failing_puts_of : MemorySink → List FailingCall
failing_puts_of sink = sink.plan.failing.items

-- how many puts failed
abbrev pub put_faults_of : MemorySink → ℕ
put_faults_of sink = sink.faults

-- the next put is in the list of those that are to fail
abbrev pub IsPutToFail : MemorySink → Type 0
IsPutToFail sink = IsListed (counted (puts_of sink) 1) (failing_puts_of sink)

-- the last put that was to fail had no memory for what it appends
abbrev pub put_had_no_memory : MemorySink → Bool
put_had_no_memory sink = sink.no_memory

-- how many first bytes the next put appends, where it is to fail
abbrev pub next_put_bytes_left : MemorySink → Option ℕ
next_put_bytes_left sink = bytes_left (counted (puts_of sink) 1) (failing_puts_of sink)

-- what a put that failed appends: its first bytes or, without memory for them, nothing
abbrev pub IsCutPut : List ℕ → MemorySink → MemorySink → Type 0
IsCutPut piece old new =
    IfSome (next_put_bytes_left old) (λ n. MatchBool (put_had_no_memory new) (put_bytes_of new ≡ put_bytes_of old) (put_bytes_of new ≡ put_bytes_of old ++ take n piece))
