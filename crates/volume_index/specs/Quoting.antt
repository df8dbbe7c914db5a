-- Names of any bytes in one column.
pub use Rattle.shown_text.specs.Showing.{with_quotes}
