-- The sample lines are read as their tables say, by computing.
use Rattle.std.proofs.Common.{refl}
use Rattle.text.specs.Reader.{agreed, ending, next, onward, read_form, read_line, read_total, scan}
use Rattle.text.specs.Samples.{AllRead, label_samples, samples, total_samples}

pub samples-read : AllRead samples
unfolding read_line scan next ending read_form read_total agreed onward AllRead samples
samples-read = (refl, (refl, (refl, (refl, (refl, (refl, (refl, (refl, tt))))))))

pub total-samples-read : AllRead total_samples
unfolding read_line scan next ending read_form read_total agreed onward AllRead total_samples
total-samples-read = (refl, (refl, (refl, (refl, (refl, (refl, (refl, (refl, tt))))))))

pub label-samples-read : AllRead label_samples
unfolding read_line scan next ending read_form read_total agreed onward AllRead label_samples
label-samples-read = (refl, (refl, (refl, (refl, (refl, (refl, tt))))))
