-- Which of two tests decides.
use Rattle.std.proofs.Common.{◌≡◌, ◌∙◌, ap, Bool, true, false, cond, [], ◌∷◌, Some, None}
use Rattle.udfs_tag.specs.Faults.{first_fault}

pub first_of_two : {F : Type 0} (x y : Bool) (f g : F) → x ≡ true → first_fault ((x, f) ∷ (y, g) ∷ []) ≡ Some f
first_of_two x y f g a = ap (λ t. cond t (Some f) (cond y (Some g) None)) a

pub second_of_two : {F : Type 0} (x y : Bool) (f g : F) → x ≡ false → y ≡ true → first_fault ((x, f) ∷ (y, g) ∷ []) ≡ Some g
second_of_two x y f g a b = ap (λ t. cond t (Some f) (cond y (Some g) None)) a ∙ ap (λ t. cond t (Some g) None) b

pub none_of_two : {F : Type 0} (x y : Bool) (f g : F) → x ≡ false → y ≡ false → first_fault ((x, f) ∷ (y, g) ∷ []) ≡ None
none_of_two x y f g a b = ap (λ t. cond t (Some f) (cond y (Some g) None)) a ∙ ap (λ t. cond t (Some g) None) b
