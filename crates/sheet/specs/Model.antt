-- The sheet that a draft or an issued sheet is.
use Rattle.steps.specs.Sheet.{Sheet, sheet_of}
use Rattle.sheet.specs.declared.types.Draft.{Draft}
use Rattle.sheet.specs.declared.types.Issued.{Issued}

abbrev pub draft_sheet : Draft → Sheet
draft_sheet d = sheet_of d.steps.items d.benches

abbrev pub issued_sheet : Issued → Sheet
issued_sheet s = sheet_of s.steps.items s.benches
