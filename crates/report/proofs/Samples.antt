-- The lines that document 01 prints for its example, and others, computed.
use mathlib.Core.List.{[], ◌∷◌}
use mathlib.Core.Path.{◌≡◌, refl}
use Rattle.calls.specs.declared.Answer.TheVariants.{Done, NotAt, NotPart, Over, Refused, Total}
use Rattle.lists.specs.Decimal.{decimal, digits}
use Rattle.report.specs.Report.{answer_text, end_text, field, line_text, outcome_text}
use Rattle.std.specs.Prelude.{Err, Ok}
use Rattle.text.specs.declared.Malformed.TheVariants.{Form}

-- 1 done 2 2
done-sample : line_text 1 (Ok (Done 2 2)) ≡ 49 ∷ 32 ∷ 100 ∷ 111 ∷ 110 ∷ 101 ∷ 32 ∷ 50 ∷ 32 ∷ 50 ∷ 10 ∷ []
unfolding line_text outcome_text answer_text field decimal digits
done-sample = refl

-- 4 not 1
not-sample : line_text 4 (Ok (NotAt 1)) ≡ 52 ∷ 32 ∷ 110 ∷ 111 ∷ 116 ∷ 32 ∷ 49 ∷ 10 ∷ []
unfolding line_text outcome_text answer_text field decimal digits
not-sample = refl

-- 5 not part
part-sample : line_text 5 (Ok NotPart) ≡ 53 ∷ 32 ∷ 110 ∷ 111 ∷ 116 ∷ 32 ∷ 112 ∷ 97 ∷ 114 ∷ 116 ∷ 10 ∷ []
unfolding line_text outcome_text answer_text field decimal digits
part-sample = refl

-- 3 total 4
total-sample : line_text 3 (Ok (Total 4)) ≡ 51 ∷ 32 ∷ 116 ∷ 111 ∷ 116 ∷ 97 ∷ 108 ∷ 32 ∷ 52 ∷ 10 ∷ []
unfolding line_text outcome_text answer_text field decimal digits
total-sample = refl

-- 3 total over
over-sample : line_text 3 (Ok Over) ≡
    51 ∷ 32 ∷ 116 ∷ 111 ∷ 116 ∷ 97 ∷ 108 ∷ 32 ∷ 111 ∷ 118 ∷ 101 ∷ 114 ∷ 10 ∷ []
unfolding line_text outcome_text answer_text field decimal digits
over-sample = refl

-- 3 refused 15
refused-sample : line_text 3 (Ok (Refused 15)) ≡
    51 ∷ 32 ∷ 114 ∷ 101 ∷ 102 ∷ 117 ∷ 115 ∷ 101 ∷ 100 ∷ 32 ∷ 49 ∷ 53 ∷ 10 ∷ []
unfolding line_text outcome_text answer_text field decimal digits
refused-sample = refl

-- 70 form 100
form-sample : line_text 70 (Err (Form 100)) ≡ 55 ∷ 48 ∷ 32 ∷ 102 ∷ 111 ∷ 114 ∷ 109 ∷ 32 ∷ 49 ∷ 48 ∷ 48 ∷ 10 ∷ []
unfolding line_text outcome_text answer_text field decimal digits
form-sample = refl

-- end 0 0 0
end-sample : end_text 0 0 0 ≡ 101 ∷ 110 ∷ 100 ∷ 32 ∷ 48 ∷ 32 ∷ 48 ∷ 32 ∷ 48 ∷ 10 ∷ []
unfolding end_text field decimal digits
end-sample = refl
