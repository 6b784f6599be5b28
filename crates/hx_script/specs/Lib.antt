pub mod LinkLines
pub mod MarkLines
pub mod Numbers
pub mod Printed
pub mod PrintedForm
pub mod RecordLines
pub mod TrueTranscript
