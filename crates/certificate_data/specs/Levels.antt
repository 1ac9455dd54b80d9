-- How many levels of branches a tree may have.
use Rattle.std.specs.Prelude.{ℕ, ◌-◌}
use Rattle.certificate_data.specs.declared.format.Format.{Format}
use Rattle.certificate_data.specs.declared.format.Format.TheVariants.{Plain, Wide}

-- how deep the tree where a county is raised may be, in a branch of so much: a plain text counts that branch, a wide
-- one doesn't
abbrev pub after_raise : Format → ℕ → ℕ
after_raise Plain n = n - 1
after_raise Wide n = n
