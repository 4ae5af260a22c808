-- The form of the source files. (Word Count Summary property; File table, Attributes.)
use Rattle.std.specs.Prelude.{ℕ, pos, ◌/◌, ◌%◌, ◌==◌, ◌&&◌, ◌||◌, not, Bool, List, [], find, Option, Some, None, option_map, unwrap_or}
use Rattle.std.specs.Ordering.{int_eq}
use Rattle.mi_base.specs.declared.answers.Fault.{Fault}
use Rattle.mi_base.specs.declared.answers.Fault.TheVariants.{Compressed}
use Rattle.mi_idt.specs.Fields.{number_on}
use Rattle.mi_schema.specs.TypedRows.{FileRow, SummaryInformationRow}
use Rattle.mi_rows.specs.Values.{lacks}

abbrev pub is_word_count : SummaryInformationRow → Bool
is_word_count r = int_eq r.property_id (pos 15)

abbrev pub number_or_zero : Option SummaryInformationRow → ℕ
number_or_zero None = 0
number_or_zero (Some r) = number_on 0 (unwrap_or r.value [])

-- property 15, and 0 where it isn't there
abbrev pub word_count : List SummaryInformationRow → ℕ
word_count rows = number_or_zero (find is_word_count rows)

-- bit 0
abbrev pub has_short_names : List SummaryInformationRow → Bool
has_short_names rows = word_count rows % 2 == 1

-- bit 1
abbrev pub is_source_compressed : List SummaryInformationRow → Bool
is_source_compressed rows = (word_count rows / 2) % 2 == 1

-- attributes that are null are 0
abbrev pub has_attributes : FileRow → ℕ → Bool
has_attributes r bits = not (lacks bits (unwrap_or r.attributes (pos 0)))

-- a file is compressed by its attribute 16384, or where the source is and attribute 8192 doesn't say otherwise
abbrev pub is_compressed : Bool → FileRow → Bool
is_compressed source r = has_attributes r 16384 || (source && not (has_attributes r 8192))

abbrev pub file_fault : Bool → List FileRow → Option Fault
file_fault source rows = option_map (λ r. Compressed r.file) (find (is_compressed source) rows)
