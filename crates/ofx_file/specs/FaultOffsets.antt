-- The offsets of the faults of a body: within the body, and from the file's first byte.
use Rattle.std.specs.Prelude.{ℕ, ◌+◌, ◌≤◌}
use Rattle.ofx_types.specs.declared.fault.TapeFault.{TapeFault}
use Rattle.ofx_types.specs.declared.fault.TapeFault.TheVariants as tags
use Rattle.ofx_types.specs.declared.fault.TreeFault.{TreeFault}
use Rattle.ofx_types.specs.declared.fault.TreeFault.TheVariants as forms
use Rattle.ofx_types.specs.declared.fault.FileFault.{FileFault}
use Rattle.ofx_types.specs.declared.fault.FileFault.TheVariants.{Syntax, Form, OutOfMemory}

-- A fault of the tags occurs at most at this offset.
abbrev pub IsTagWithin : ℕ → TapeFault → Type 0
IsTagWithin most (tags.Tag at) = at ≤ most
IsTagWithin most (tags.Mismatch at) = at ≤ most
IsTagWithin most (tags.Depth at) = at ≤ most
IsTagWithin most (tags.Cut at) = at ≤ most
IsTagWithin most tags.OutOfMemory = Unit {0}

-- A fault of the forms occurs at most at this offset.
abbrev pub IsFormWithin : ℕ → TreeFault → Type 0
IsFormWithin most (forms.Missing at) = at ≤ most
IsFormWithin most (forms.Repeated at) = at ≤ most
IsFormWithin most (forms.Value at) = at ≤ most
IsFormWithin most forms.OutOfMemory = Unit {0}

-- A fault of the tags of a body with so many bytes before it, as a fault of the file.
abbrev pub syntax_fault : ℕ → TapeFault → FileFault
syntax_fault size (tags.Tag at) = Syntax (size + at)
syntax_fault size (tags.Mismatch at) = Syntax (size + at)
syntax_fault size (tags.Depth at) = Syntax (size + at)
syntax_fault size (tags.Cut at) = Syntax (size + at)
syntax_fault size tags.OutOfMemory = OutOfMemory

-- The same of a fault of the forms.
abbrev pub form_fault : ℕ → TreeFault → FileFault
form_fault size (forms.Missing at) = Form (size + at)
form_fault size (forms.Repeated at) = Form (size + at)
form_fault size (forms.Value at) = Form (size + at)
form_fault size forms.OutOfMemory = OutOfMemory
