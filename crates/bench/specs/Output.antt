-- What a part of the input leaves: a console ready for more input, with nothing that waits to be written.
use Rattle.std.specs.Prelude.{Err, List, Ok, Result, ◌≡◌, ◌+◌, ◌<◌, ◌^◌, ◌≤◌, ℕ, length, take}
use Rattle.console.specs.Buffers.{Buffered, console}
use Rattle.console.specs.Console.{Console, closed, fed, written}
use Rattle.console.specs.declared.Progress.{Progress}
use Rattle.bench.specs.declared.output.Written.{Written}

-- the numbers before the first byte of the input
abbrev pub begun : Progress
begun = record { held = 0; lines = 0; printed = 0 }

-- the numbers after what is printed was handed over
abbrev pub flushed : Progress → Progress
flushed p = record { held = p.held; lines = p.lines; printed = 0 }

-- all n bytes of a text were handed over; if the write failed nothing is said
unfoldable pub HandedAll : {E : Type 0} → ℕ → Result ℕ E → Type 0
HandedAll n (Ok k) = k ≡ n
HandedAll n (Err e) = Unit {0}

-- all that is printed was handed over; if the write failed nothing is said
unfoldable pub Flushed : {E : Type 0} → Progress → Result Written E → Type 0
Flushed p (Ok r) = r.progress ≡ flushed p
Flushed p (Err e) = Unit {0}

-- nothing waits to be written, and n lines more can be counted
pub record Idle (p : Progress) (n : ℕ) : Type 0 where
  pub printed : p.printed ≡ 0
  pub lines : p.lines + n < 2 ^ 64

-- ready for the next part, with at most n lines more than before
pub record Rested (p : Progress) (n : ℕ) (r : Progress) (l o : List ℕ) : Type 0 where
  pub ready : Buffered r l o
  pub printed : r.printed ≡ 0
  pub lines : r.lines ≤ p.lines + n

-- the console x took the part s of the input, and what it printed was written
pub record Takes (p : Progress) (x : Console) (s : List ℕ) (r : Progress) (l b w o : List ℕ) : Type 0 where
  pub rested : Rested p (length s) r l o
  pub equal : console r l b w o ≡ written (fed x s)

-- the whole part was taken; a write can fail only if there is a byte to take
unfoldable pub Took : {E : Type 0} → Progress → Console → List ℕ → Result Written E → List ℕ → List ℕ → List ℕ →
    List ℕ → Type 0
Took p x s (Ok r) l b w o = Takes p x s r.progress l b w o
Took p x s (Err e) l b w o = 0 < length s

-- the bytes handed over last are all that the console x prints when the input ends
unfoldable pub Finished : {E : Type 0} → Console → List ℕ → Result ℕ E → Type 0
Finished x o (Ok n) = take n o ≡ closed x
Finished x o (Err e) = Unit {0}
