-- What a read and all reads leave. What a read brought stands in the chunk that it left: the first bytes, as many as
-- the read returned.
use Rattle.std.specs.Prelude.{List, [], ◌++◌, ◌∷◌, ◌≡◌, ◌<◌, ◌≤◌, ℕ, Err, Ok, Result, length, take}
use Rattle.std.specs.declared.ops.ControlFlow.{ControlFlow}
use Rattle.std.specs.declared.ops.ControlFlow.TheVariants.{Break, Continue}
use Rattle.console.specs.Buffers.{Buffered, ProgressRoom, console}
use Rattle.console.specs.Console.{Console, fed, start, written}
use Rattle.console.specs.declared.Progress.{Progress}
use Rattle.bench.specs.Output.{Rested, Takes}
use Rattle.bench.specs.declared.output.Written.{Written}

-- the bytes that a read takes at most
abbrev pub chunk_bytes : ℕ
chunk_bytes = 65536

-- ---- one read

-- what a read into n bytes returns: the number of bytes that it brought, 0 if it failed
abbrev pub Moved : ℕ → ℕ → Type 0
Moved n got = got ≤ n

-- the bytes that a read brought which returned a number and left a chunk: none if it failed
unfoldable pub brought : ℕ → List ℕ → List ℕ
brought got c = take got c

-- a read brought bytes, and the console x took all of them
pub record Came (p : Progress) (x : Console) (s : List ℕ) (r : Progress) (l b w o : List ℕ) : Type 0 where
  pub some : 0 < length s
  pub takes : Takes p x s r l b w o

-- a read brought nothing, and the console is still x
pub record Stayed (p : Progress) (x : Console) (s : List ℕ) (r : Progress) (l b w o : List ℕ) : Type 0 where
  pub none : s ≡ []
  pub rested : Rested p 0 r l o
  pub equal : console r l b w o ≡ x

-- the bytes s that a read brought decide whether the input ends; a write can fail only if there are any
unfoldable pub Turned : {E : Type 0} → Progress → Console → List ℕ → Result (ControlFlow Written Written) E → List ℕ →
    List ℕ → List ℕ → List ℕ → Type 0
Turned p x s (Ok (Continue r)) l b w o = Came p x s r.progress l b w o
Turned p x s (Ok (Break r)) l b w o = Stayed p x s r.progress l b w o
Turned p x s (Err e) l b w o = 0 < length s

-- a read returned a number and left the chunk c, and what it brought was taken
pub record ReadTurn {E : Type 0} (p : Progress) (x : Console) (c : List ℕ) (t : Result (ControlFlow Written Written) E)
    (l b w o : List ℕ) : Type 0 where
  pub got : ℕ
  pub moved : Moved (length c) got
  pub turned : Turned p x (brought got c) t l b w o

-- ---- all reads

-- what a read returned, and the chunk that it left
pub record Read : Type 0 where
  pub got : ℕ
  pub chunk : List ℕ

-- what reads brought, one after another
abbrev pub input_of : List Read → List ℕ
input_of [] = []
input_of (r ∷ rs) = brought r.got r.chunk ++ input_of rs

-- a read into a whole chunk that brought bytes
pub record Brings (r : Read) : Type 0 where
  pub size : length r.chunk ≡ chunk_bytes
  pub moved : Moved chunk_bytes r.got
  pub some : 0 < length (brought r.got r.chunk)

abbrev pub EachBrings : List Read → Type 0
EachBrings [] = Unit {0}
EachBrings (r ∷ rs) = Brings r × EachBrings rs

-- from the start the console took what the reads brought, wrote what it printed, and has room for the end
pub record Met (r : Progress) (l b w o : List ℕ) : Type 0 where
  pub reads : List Read
  pub bring : EachBrings reads
  pub ready : Buffered r l o
  pub room : ProgressRoom r 1 2
  pub equal : console r l b w o ≡ written (fed start (input_of reads))

unfoldable pub MetAll : {E : Type 0} → Result Written E → List ℕ → List ℕ → List ℕ → List ℕ → Type 0
MetAll (Ok r) l b w o = Met r.progress l b w o
MetAll (Err e) l b w o = Unit {0}
